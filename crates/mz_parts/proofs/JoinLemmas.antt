-- What the code of conjunctions and disjunctions tells: a statement beyond the limits makes all beyond them that it is joined to.
use Rattle.std.proofs.Common.{◌≡◌, List, [], ◌∷◌, length, map, refl, sym, ap, ◌∙◌, subst, arith, Bool, true, false}
use Rattle.std.specs.Prelude.{Result, Ok, Err}
use Rattle.mz_base.specs.declared.place.Place.{Place}
use Rattle.mz_context.specs.declared.labelled.LabelledStatement.{LabelledStatement}
use Rattle.mz_core.specs.Parts.{conjunction_to}
use Rattle.mz_core.specs.Statement.{Statement, Not, And}
use Rattle.mz_core.specs.StatementForms.{opposite, disjunction}
use Rattle.mz_names.specs.declared.refusal.Refusal.{Refusal}
use Rattle.mz_sizes.specs.Sizes.{statement_nodes, statement_depth, statement_keeps}
use Rattle.mz_applied.specs.Within.{within}
use Rattle.mz_fits.proofs.FitLemmas.{empty}
use Rattle.mz_joined.proofs.KeepLemmas.{keeps_more, beyond_and, within_kept, within_beyond, within_refused, refused_within}
use Rattle.mz_steps.specs.Changes.{statement_of}
use Rattle.mz_thesis.specs.Cases.{disjunction_to}

beyond_to : (s : Statement) (ss : List Statement) → statement_keeps s ≡ false → statement_keeps (conjunction_to s ss) ≡ false
beyond_to s [] h = h
beyond_to s (t ∷ ts) h = beyond_to (And s t) ts (beyond_and s t h)

pub within-told_and : (first : Place) (s t : Statement) (rest others : List LabelledStatement) (p : LabelledStatement) (o goal : Result Statement Refusal) → rest ≡ p ∷ others → o ≡ within statement_keeps first (And s p.statement) → o ≡ Ok t →
    within statement_keeps first (conjunction_to s (map statement_of rest)) ≡ goal → within statement_keeps first (conjunction_to t (map statement_of others)) ≡ goal
within-told_and first s t rest others p o goal er eo et h =
    ap (λ u. within statement_keeps first (conjunction_to u (map statement_of others))) (within_kept first (And s p.statement) t (sym eo ∙ et)) ∙ (ap (λ xs. within statement_keeps first (conjunction_to s (map statement_of xs))) (sym er) ∙ h)

pub told_and_refused : (first : Place) (s : Statement) (rest others : List LabelledStatement) (p : LabelledStatement) (o goal : Result Statement Refusal) (r : Refusal) → rest ≡ p ∷ others → o ≡ within statement_keeps first (And s p.statement) → o ≡ Err r →
    within statement_keeps first (conjunction_to s (map statement_of rest)) ≡ goal → Err r ≡ goal
told_and_refused first s rest others p o goal r er eo ep h =
    let over : statement_keeps (And s p.statement) ≡ false = within_beyond first (And s p.statement) r (sym eo ∙ ep) in
    ap Err (within_refused first (And s p.statement) r (sym eo ∙ ep)) ∙
    (sym (refused_within first (conjunction_to (And s p.statement) (map statement_of others)) (beyond_to (And s p.statement) (map statement_of others) over)) ∙
    (ap (λ xs. within statement_keeps first (conjunction_to s (map statement_of xs))) (sym er) ∙ h))

pub told_and_end : (first : Place) (s : Statement) (rest : List LabelledStatement) (o goal : Result Statement Refusal) → length rest ≡ 0 → o ≡ within statement_keeps first s →
    within statement_keeps first (conjunction_to s (map statement_of rest)) ≡ goal → o ≡ goal
told_and_end first s rest o goal er eo h = eo ∙ (ap (λ xs. within statement_keeps first (conjunction_to s (map statement_of xs))) (sym (empty rest er)) ∙ h)

pub ruleset conjunction_rules = (within-told_and, told_and_refused, told_and_end)

-- a disjunction that is joined to a further statement is larger: its conjunction stands in the new one
beyond_or : (s t u : Statement) → statement_keeps (disjunction s t) ≡ false → statement_keeps (disjunction (disjunction s t) u) ≡ false
beyond_or s t u h =
    keeps_more (statement_nodes (disjunction s t)) (statement_depth (disjunction s t)) (statement_nodes (disjunction (disjunction s t) u)) (statement_depth (disjunction (disjunction s t) u)) h (omega arith) (omega arith)

beyond_some : (s t : Statement) (us : List Statement) → statement_keeps (disjunction s t) ≡ false → statement_keeps (disjunction_to (disjunction s t) us) ≡ false
beyond_some s t [] h = h
beyond_some s t (u ∷ us) h = beyond_some (disjunction s t) u us (beyond_or s t u h)

pub within-told_or : (first : Place) (s u : Statement) (rest others : List Statement) (t : Statement) (o goal : Result Statement Refusal) → rest ≡ t ∷ others → o ≡ within statement_keeps first (disjunction s t) → o ≡ Ok u →
    within statement_keeps first (disjunction_to s rest) ≡ goal → within statement_keeps first (disjunction_to u others) ≡ goal
within-told_or first s u rest others t o goal er eo et h =
    ap (λ x. within statement_keeps first (disjunction_to x others)) (within_kept first (disjunction s t) u (sym eo ∙ et)) ∙ (ap (λ xs. within statement_keeps first (disjunction_to s xs)) (sym er) ∙ h)

pub told_or_refused : (first : Place) (s : Statement) (rest others : List Statement) (t : Statement) (o goal : Result Statement Refusal) (r : Refusal) → rest ≡ t ∷ others → o ≡ within statement_keeps first (disjunction s t) → o ≡ Err r →
    within statement_keeps first (disjunction_to s rest) ≡ goal → Err r ≡ goal
told_or_refused first s rest others t o goal r er eo ep h =
    let over : statement_keeps (disjunction s t) ≡ false = within_beyond first (disjunction s t) r (sym eo ∙ ep) in
    ap Err (within_refused first (disjunction s t) r (sym eo ∙ ep)) ∙
    (sym (refused_within first (disjunction_to (disjunction s t) others) (beyond_some s t others over)) ∙ (ap (λ xs. within statement_keeps first (disjunction_to s xs)) (sym er) ∙ h))

pub told_or_end : (first : Place) (s : Statement) (rest : List Statement) (o goal : Result Statement Refusal) → length rest ≡ 0 → o ≡ within statement_keeps first s → within statement_keeps first (disjunction_to s rest) ≡ goal → o ≡ goal
told_or_end first s rest o goal er eo h = eo ∙ (ap (λ xs. within statement_keeps first (disjunction_to s xs)) (sym (empty rest er)) ∙ h)

pub ruleset disjunction_rules = (within-told_or, told_or_refused, told_or_end)
