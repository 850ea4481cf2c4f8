-- Instances of clauses.
use Rattle.std.specs.Prelude.{ℕ, suc, ◌+◌, List, [], ◌∷◌, ◌++◌, map}
use Rattle.mz_logic.specs.Term as term
use Rattle.mz_logic.specs.Term.{Bound, Const, App, none, more, terms_of}
use Rattle.mz_logic.specs.Substitution.{substitute, value_at}
use Rattle.mz_logic.specs.declared.literal.Literal as literal
use Rattle.mz_logic.specs.declared.literal.Literal.TheVariants as literals
use Rattle.mz_ground.specs.GroundExpression.{GroundExpression, TermExpression, AtomExpression}
use Rattle.mz_ground.specs.declared.trigger.Trigger.{Trigger}
use Rattle.mz_ground.specs.declared.trigger.Trigger.TheVariants.{Term, Atom}
use Rattle.mz_ground.specs.declared.clause.Clause.{Clause}

-- the literal at terms: they stand for its indices from 0 on, and further indices are lowered by as many
abbrev pub literal_at : List term.Term → literal.Literal → literal.Literal
literal_at ts (literals.Atom positive s us) = literals.Atom positive s (map (substitute 0 (value_at ts)) us)
literal_at ts (literals.Eq positive t u) = literals.Eq positive (substitute 0 (value_at ts) t) (substitute 0 (value_at ts) u)

-- the trigger at the terms
abbrev pub trigger_at : List term.Term → Trigger → GroundExpression
trigger_at ts (Term t) = TermExpression (substitute 0 (value_at ts) t)
trigger_at ts (Atom s us) = AtomExpression s (map (substitute 0 (value_at ts)) us)

-- the premises at the terms, and the conclusion
abbrev pub premises_at : Clause → List term.Term → List literal.Literal
premises_at c ts = map (literal_at ts) c.premises

abbrev pub conclusion_at : Clause → List term.Term → literal.Literal
conclusion_at c ts = literal_at ts c.conclusion

-- one for the term and each term within it
abbrev mutual
  pub term_nodes : term.Term → ℕ
  term_nodes (Bound index) = 1
  term_nodes (Const number) = 1
  term_nodes (App s ts) = suc (args_nodes ts)

  pub args_nodes : term.Terms → ℕ
  args_nodes none = 0
  args_nodes (more t ts) = term_nodes t + args_nodes ts

-- one for the literal and each term in it
abbrev pub literal_nodes : literal.Literal → ℕ
literal_nodes (literals.Atom positive s ts) = suc (args_nodes (terms_of ts))
literal_nodes (literals.Eq positive t u) = suc (term_nodes t + term_nodes u)

abbrev pub literals_nodes : List literal.Literal → ℕ
literals_nodes [] = 0
literals_nodes (l ∷ ls) = literal_nodes l + literals_nodes ls

-- the nodes of the instance: those of its premises and its conclusion
abbrev pub instance_nodes : Clause → List term.Term → ℕ
instance_nodes c ts = literals_nodes (premises_at c ts ++ conclusion_at c ts ∷ [])
