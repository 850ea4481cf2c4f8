-- A clause and its definition.
use Rattle.std.proofs.Common.{◌≡◌, ℕ, List, [], ◌∷◌, refl, sym, ap, ◌∙◌, subst, Bool, true, false}
use Rattle.std.proofs.Math.Bool.{Bool-set}
use Rattle.mz_logic.specs.declared.literal.Literal.{Literal}
use Rattle.mz_ground.specs.Variables.{has_all_below}
use Rattle.mz_ground.specs.declared.trigger.Trigger.{Trigger}
use Rattle.mz_ground.specs.declared.clause.Clause.{Clause}
use Rattle.mz_clauses.specs.Groups.{clause_where, clause_if_triggered}

where_true : (n : ℕ) (r : Trigger) (ps : List Literal) (k : Literal) (b : Bool) (e : has_all_below n r ≡ b) (h : has_all_below n r ≡ true) → clause_where n r ps k b e ≡ record { variables = n; trigger = r; premises = ps; conclusion = k; triggered = h } ∷ []
where_true n r ps k true e h = λ i. record { variables = n; trigger = r; premises = ps; conclusion = k; triggered = Bool-set (has_all_below n r) true e h i } ∷ []
where_true n r ps k false e h = cc

where_false : (n : ℕ) (r : Trigger) (ps : List Literal) (k : Literal) (b : Bool) (e : has_all_below n r ≡ b) → has_all_below n r ≡ false → clause_where n r ps k b e ≡ []
where_false n r ps k true e h = cc
where_false n r ps k false e h = refl

pub no_clause : (n : ℕ) (r : Trigger) (ps : List Literal) (k : Literal) → has_all_below n r ≡ false → clause_if_triggered n r ps k ≡ []
unfolding clause_if_triggered
no_clause n r ps k h = where_false n r ps k (has_all_below n r) refl h

pub one_clause : (c : Clause) (n : ℕ) (r : Trigger) (ps : List Literal) (k : Literal) → c.variables ≡ n → c.trigger ≡ r → c.premises ≡ ps → c.conclusion ≡ k → clause_if_triggered n r ps k ≡ c ∷ []
unfolding clause_if_triggered
one_clause c n r ps k en er eps ek =
    sym (λ i. clause_if_triggered (en i) (er i) (eps i) (ek i)) ∙ where_true c.variables c.trigger c.premises c.conclusion (has_all_below c.variables c.trigger) refl c.triggered

pub ruleset clause_rules = (no_clause, one_clause)
