-- Joined and quantified statements are usable where their parts are.
use Rattle.std.proofs.Common.{◌≡◌, ℕ, suc, true, List, [], ◌∷◌, refl, ◌∙◌, subst, Option, Some, None}
use Rattle.std.specs.Prelude.{Result, Ok, Err}
use Rattle.std.proofs.lemmas.Bool.{and_from}
use Rattle.mz_base.specs.declared.place.Place.{Place}
use Rattle.mz_core.specs.Statement.{Statement, And}
use Rattle.mz_core.specs.StatementForms.{opposite, disjunction, implication, equivalence}
use Rattle.mz_core.specs.Abstraction.{statement_over}
use Rattle.mz_core.proofs.AllLemmas.{opposite_all, implication_all, disjunction_all, equivalence_all}
use Rattle.mz_context.specs.Context.{next}
use Rattle.mz_context.specs.Changes.{with_constant}
use Rattle.mz_context.specs.declared.context.Context.{Context}
use Rattle.mz_names.specs.Closing.{constant_of, with_variables, for_all, there_are}
use Rattle.mz_names.specs.declared.refusal.Refusal.{Refusal}
use Rattle.mz_names.specs.declared.variable.Variable.{Variable}
use Rattle.mz_sizes.specs.Sizes.{statement_keeps}
use Rattle.mz_joined.specs.Joined.{denied, conjoined, disjoined, implied, equated, under, thesis_at}
use Rattle.mz_joined.specs.Bound.{for_all_within, there_are_within}
use Rattle.mz_choice_laws.specs.Known.{term_known, statement_known}
use Rattle.mz_choice_laws.proofs.KnownValues.{statement_known-over}
use Rattle.mz_term_laws.specs.Usable.{is_usable, type_usable, statement_usable}
use Rattle.mz_term_laws.specs.ChangeLaws.{AreUsable}
use Rattle.mz_term_laws.proofs.Outcomes.{on_ok, on_within}
use Rattle.mz_term_laws.proofs.UsableProofs.{next_further, usable_apart}

-- forms
pub opposite_usable : (least : ℕ) (c : Context) (s : Statement) → statement_usable least c s ≡ true → statement_usable least c (opposite s) ≡ true
opposite_usable least c s h = opposite_all (term_known (is_usable least c)) 0 s ∙ h

pub denied_usable : (least : ℕ) (c : Context) (first : Place) (o : Result Statement Refusal) → on_ok (statement_usable least c) o ≡ true → on_ok (statement_usable least c) (denied first o) ≡ true
denied_usable least c first (Err r) h = refl
denied_usable least c first (Ok s) h = on_within (statement_usable least c) statement_keeps first (opposite s) (opposite_usable least c s h)

pub conjoined_usable : (least : ℕ) (c : Context) (first : Place) (s : Statement) (o : Result Statement Refusal) → statement_usable least c s ≡ true → on_ok (statement_usable least c) o ≡ true → on_ok (statement_usable least c) (conjoined first s o) ≡ true
conjoined_usable least c first s (Err r) h k = refl
conjoined_usable least c first s (Ok t) h k = on_within (statement_usable least c) statement_keeps first (And s t) (and_from (statement_usable least c s) (statement_usable least c t) h k)

pub disjoined_usable : (least : ℕ) (c : Context) (first : Place) (s : Statement) (o : Result Statement Refusal) → statement_usable least c s ≡ true → on_ok (statement_usable least c) o ≡ true → on_ok (statement_usable least c) (disjoined first s o) ≡ true
disjoined_usable least c first s (Err r) h k = refl
disjoined_usable least c first s (Ok t) h k = on_within (statement_usable least c) statement_keeps first (disjunction s t) (disjunction_all (term_known (is_usable least c)) 0 s t h k)

pub implied_usable : (least : ℕ) (c : Context) (first : Place) (s : Statement) (o : Result Statement Refusal) → statement_usable least c s ≡ true → on_ok (statement_usable least c) o ≡ true → on_ok (statement_usable least c) (implied first s o) ≡ true
implied_usable least c first s (Err r) h k = refl
implied_usable least c first s (Ok t) h k = on_within (statement_usable least c) statement_keeps first (implication s t) (implication_all (term_known (is_usable least c)) 0 s t h k)

pub equated_usable : (least : ℕ) (c : Context) (first : Place) (s : Statement) (o : Result Statement Refusal) → statement_usable least c s ≡ true → on_ok (statement_usable least c) o ≡ true → on_ok (statement_usable least c) (equated first s o) ≡ true
equated_usable least c first s (Err r) h k = refl
equated_usable least c first s (Ok t) h k = on_within (statement_usable least c) statement_keeps first (equivalence s t) (equivalence_all (term_known (is_usable least c)) 0 s t h k)

pub under_usable : (least : ℕ) (c : Context) (s : Statement) (o : Result Statement Refusal) → statement_usable least c s ≡ true → on_ok (statement_usable least c) o ≡ true → on_ok (statement_usable least c) (under s o) ≡ true
under_usable least c s (Err r) h k = refl
under_usable least c s (Ok t) h k = implication_all (term_known (is_usable least c)) 0 s t h k

pub thesis_usable : (least : ℕ) (c : Context) (first : Place) (o : Option Statement) → ((s : Statement) → o ≡ Some s → statement_usable least c s ≡ true) → on_ok (statement_usable least c) (thesis_at first o) ≡ true
thesis_usable least c first None f = refl
thesis_usable least c first (Some s) f = on_within (statement_usable least c) statement_keeps first s (f s refl)

-- variables bound again
pub for_all_usable : (least : ℕ) (c : Context) (vs : List Variable) (s : Statement) → AreUsable least c vs → statement_usable least (with_variables c vs) s ≡ true → statement_usable least c (for_all (next c) vs s) ≡ true
for_all_usable least c [] s u h = h
for_all_usable least c (v ∷ vs) s u h =
    let d : Context = with_constant c (constant_of v) in
    let inner : statement_usable least d (for_all (next d) vs s) ≡ true = for_all_usable least d vs s u.1 h in
    let body : statement_usable least d (for_all (suc (next c)) vs s) ≡ true = subst (λ n. statement_usable least d (for_all n vs s) ≡ true) (next_further c (constant_of v)) inner in
    and_from (type_usable least c v.ty) (statement_known (is_usable least c) 1 (statement_over (next c) 0 (for_all (suc (next c)) vs s))) u.0
    (statement_known-over (is_usable least d) (is_usable least c) (next c) 0 (usable_apart least c (constant_of v)) (for_all (suc (next c)) vs s) body)

pub for_all_within_usable : (least : ℕ) (c : Context) (first : Place) (vs : List Variable) (s : Statement) → AreUsable least c vs → statement_usable least (with_variables c vs) s ≡ true → on_ok (statement_usable least c) (for_all_within first (next c) vs s) ≡ true
for_all_within_usable least c first vs s u h = on_within (statement_usable least c) statement_keeps first (for_all (next c) vs s) (for_all_usable least c vs s u h)

pub there_are_usable : (least : ℕ) (c : Context) (vs : List Variable) (s : Statement) → AreUsable least c vs → statement_usable least (with_variables c vs) s ≡ true → statement_usable least c (there_are (next c) vs s) ≡ true
there_are_usable least c vs s u h =
    opposite_usable least c (for_all (next c) vs (opposite s)) (for_all_usable least c vs (opposite s) u (opposite_usable least (with_variables c vs) s h))

pub there_are_within_usable : (least : ℕ) (c : Context) (first : Place) (vs : List Variable) (s : Statement) → AreUsable least c vs → statement_usable least (with_variables c vs) s ≡ true → on_ok (statement_usable least c) (there_are_within first (next c) vs s) ≡ true
there_are_within_usable least c first vs s u h = on_within (statement_usable least c) statement_keeps first (there_are (next c) vs s) (there_are_usable least c vs s u h)
