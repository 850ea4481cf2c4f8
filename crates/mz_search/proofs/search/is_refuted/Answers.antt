use Rattle.std.proofs.Common.{◌≡◌, ◌∙◌, ◌∷◌, [], ap, map, true}
use Rattle.mz_search.specs.Goals.{Goal, Refute, known, goal_of}
use Rattle.mz_search.specs.States.{State}
use Rattle.mz_search.proofs.SettleLemmas.{start_there, start_back}
use Rattle.mz_search.proofs.search.is_refuted.Goals as goal

pub returns : goal.returns
returns c =
    let q : map goal_of c.in_ok-start.start.goals.items ≡ Refute [] true c.args.f.now ∷ [] = ap (λ (s : State). s.0) c.in_ok-start.ensures ∙ ap (λ (g : Goal). g ∷ []) c.in_ok-goal.ensures in
    let r : c.in_ok-start.start.assignment ≡ [] = ap (λ (s : State). s.1) c.in_ok-start.ensures ∙ c.new-none.ensures in (
      λ t. start_there (known c.args.table.now c.args.values.now c.args.universals.now) c.args.f.now (map goal_of c.in_ok-start.start.goals.items) c.in_ok-start.start.assignment q r (c.in_ok-found.ensures.0 t),
      λ h. c.in_ok-found.ensures.1 (start_back (known c.args.table.now c.args.values.now c.args.universals.now) c.args.f.now (map goal_of c.in_ok-start.start.goals.items) c.in_ok-start.start.assignment q r h),
    )
