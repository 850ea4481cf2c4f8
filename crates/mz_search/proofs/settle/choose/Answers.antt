use Rattle.std.proofs.Common.{◌∷◌, ◌<◌, length, map, sym, refl, subst, List, ℕ}
use Rattle.std.specs.List.{AllByRecursion}
use Rattle.std.proofs.lemmas.List.Sorted.{IsPermutation-map}
use Rattle.mz_search.specs.Goals.{known, goal_of, Refute}
use Rattle.mz_search.specs.States.{AreBranches, state_of}
use Rattle.mz_search.proofs.SettleLemmas.{goal_below, told_choice}
use Rattle.mz_search.proofs.settle.choose.Goals as goal

pub branches-requires : goal.branches-requires
branches-requires c =
    subst (λ (xs : List ℕ). AllByRecursion (λ i. i < length c.args.others.assignment) xs) (sym c.as_slice.ensures.value)
    (goal_below (length c.args.others.assignment) (c.args.last ∷ c.args.others.goals.items) c.in_ok-picked.picked.rest.items c.in_ok-picked.picked.goal c.in_ok-picked.ensures c.requires)

pub returns : goal.returns
returns c =
    told_choice (known c.args.table.now c.args.values.now c.args.universals.now) (goal_of c.args.last ∷ map goal_of c.args.others.goals.items) c.args.others.assignment
    (record { goal = c.in_ok-picked.picked.goal; branches = c.in_ok-branches.branches; rest = c.in_ok-picked.picked.rest; assignment = c.args.others.assignment })
    (IsPermutation-map goal_of (c.args.last ∷ c.args.others.goals.items) (c.in_ok-picked.picked.goal ∷ c.in_ok-picked.picked.rest.items) c.in_ok-picked.ensures) c.requires
    (subst (λ (xs : List ℕ). AreBranches (known c.args.table.now c.args.values.now c.args.universals.now) (Refute xs c.in_ok-picked.picked.goal.positive c.in_ok-picked.picked.goal.formula.now) c.args.others.assignment (map state_of c.in_ok-branches.branches.items)) c.as_slice.ensures.value c.in_ok-branches.ensures)
    refl
