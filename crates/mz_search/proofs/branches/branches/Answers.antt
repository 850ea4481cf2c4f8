use Rattle.std.proofs.Common.{◌≡◌, ap, sym, map, refl, subst, ◌∙◌, ◌∷◌, ◌++◌, [], true, false, length, Bool}
use Rattle.std.specs.Prelude.{not, None}
use Rattle.mz_logic.specs.Formula.{Formula, Not, And, All}
use Rattle.mz_logic.specs.FormulaView.{formula_of}
use Rattle.mz_search.specs.Goals.{known, Refute}
use Rattle.mz_search.specs.States.{AreBranches, state_of}
use Rattle.mz_search.proofs.BranchLemmas.{told_not, told_both, told_body}
use Rattle.mz_search.proofs.branches.branches.Goals as goal

pub returns-in_ok-out-in_default-Not : goal.returns-in_ok-out-in_default-Not
returns-in_ok-out-in_default-Not c =
    let q : c.args.f.now ≡ Not c.in_default-Not.g.value = sym c.f.view_is ∙ ap formula_of c.in_default-Not.is-1 in
    subst (λ (x : Formula). AreBranches (known c.args.table.now c.args.values.now c.args.universals.now) (Refute c.args.scope.now c.args.positive x) c.args.e.now (map state_of c.in_ok-out-in_default-Not.out.items)) (sym q)
    (told_not (known c.args.table.now c.args.values.now c.args.universals.now) c.args.scope.now c.args.positive (not c.args.positive) c.in_default-Not.g.value c.args.e.now (map state_of c.in_ok-out-in_default-Not.out.items) c.requires refl
    (c.in_ok-out-in_default-Not.ensures ∙ ap (λ (x : Formula). (Refute c.args.scope.now (not c.args.positive) x ∷ [], c.args.e.now) ∷ []) c.deref.ensures))

pub returns-in_ok-out-in-false-And : goal.returns-in_ok-out-in-false-And
returns-in_ok-out-in-false-And c =
    let q : c.args.f.now ≡ And c.in-false-And.g.value c.in-false-And.h.value = sym c.f.view_is ∙ ap formula_of c.in-false-And.is-1 in
    subst (λ (s : Bool). AreBranches (known c.args.table.now c.args.values.now c.args.universals.now) (Refute c.args.scope.now s c.args.f.now) c.args.e.now (map state_of c.in_ok-out-in-false-And.out.items)) (sym c.in-false-And.is-0)
    (subst (λ (x : Formula). AreBranches (known c.args.table.now c.args.values.now c.args.universals.now) (Refute c.args.scope.now false x) c.args.e.now (map state_of c.in_ok-out-in-false-And.out.items)) (sym q)
    (told_both (known c.args.table.now c.args.values.now c.args.universals.now) c.args.scope.now c.in-false-And.g.value c.in-false-And.h.value c.args.e.now (map state_of c.in_ok-out-in-false-And.out.items) c.requires
    (c.in_ok-out-in-false-And.ensures ∙ (λ i. (Refute c.args.scope.now false (c.deref-in-false-And.ensures i) ∷ Refute c.args.scope.now false (c.deref-in-false-And-2.ensures i) ∷ [], c.args.e.now) ∷ []))))

pub returns-in_ok-out-in-true-All : goal.returns-in_ok-out-in-true-All
returns-in_ok-out-in-true-All c =
    let q : c.args.f.now ≡ All c.in-true-All.b.value = sym c.f.view_is ∙ ap formula_of c.in-true-All.is-1 in
    subst (λ (s : Bool). AreBranches (known c.args.table.now c.args.values.now c.args.universals.now) (Refute c.args.scope.now s c.args.f.now) c.args.e.now (map state_of c.in_ok-out-in-true-All.out.items)) (sym c.in-true-All.is-0)
    (subst (λ (x : Formula). AreBranches (known c.args.table.now c.args.values.now c.args.universals.now) (Refute c.args.scope.now true x) c.args.e.now (map state_of c.in_ok-out-in-true-All.out.items)) (sym q)
    (told_body (known c.args.table.now c.args.values.now c.args.universals.now) c.args.scope.now c.in-true-All.b.value c.args.e.now (map state_of c.in_ok-out-in-true-All.out.items) c.requires
    (c.in_ok-out-in-true-All.ensures ∙ ap (λ (x : Formula). (Refute (length c.args.e.now ∷ c.args.scope.now) true x ∷ [], c.args.e.now ++ None ∷ []) ∷ []) c.deref-in-true-All.ensures)))
