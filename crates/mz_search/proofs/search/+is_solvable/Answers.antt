use Rattle.std.proofs.Common.{◌≡◌, ◌<◌, ◌∙◌, arith, map, sym, refl, length, ◌++◌}
use Rattle.mz_search.specs.Goals.{known, goal_of, sizes, IsBelow}
use Rattle.mz_search.specs.States.{state_of, Solvable}
use Rattle.mz_search.proofs.StateLemmas.{all_right}
use Rattle.mz_search.proofs.SettleLemmas.{choice_of, far_smaller, far_within, chosen_parts, joined_facts, next_solves, next_fails, none_of_all, none_solves, false_true}
use Rattle.mz_search.proofs.search.+is_solvable.Goals as goal

pub is_solvable-requires : goal.is_solvable-requires
is_solvable-requires t c =
    let h = (choice_of (known c.args.table.now c.args.values.now c.args.universals.now) (state_of c.args.state) _ c.in_ok-settle.field-0 c.in-Some.choice c.in-Some.is c.in_ok-settle.ensures) in
    let lt : sizes (map goal_of c.in_ok-parts-in-Some.parts.far.items) < sizes (map goal_of c.args.state.goals.items) = far_smaller (known c.args.table.now c.args.values.now c.args.universals.now) (state_of c.args.state) c.in-Some.choice c.in_ok-parts-in-Some.parts h c.in_ok-parts-in-Some.ensures in
    let d : sizes (map goal_of c.args.state.goals.items) ≡ t = c.decreases in
    (omega (arith, lt, d), all_right (IsBelow (length c.in-Some.choice.assignment)) (map goal_of c.in_ok-parts-in-Some.parts.near.items) (map goal_of c.in_ok-parts-in-Some.parts.far.items) (far_within (known c.args.table.now c.args.values.now c.args.universals.now) (state_of c.args.state) c.in-Some.choice c.in_ok-parts-in-Some.parts h c.in_ok-parts-in-Some.ensures))

pub returns-then-not-branch : goal.returns-then-not-branch
returns-then-not-branch t c =
    (λ e. absurd (false_true e), λ x. sym c.if-not-branch.true ∙ c.in_ok-is_solvable-in-Some.ensures.1 (chosen_parts (known c.args.table.now c.args.values.now c.args.universals.now) (state_of c.args.state) c.in-Some.choice c.in_ok-parts-in-Some.parts (choice_of (known c.args.table.now c.args.values.now c.args.universals.now) (state_of c.args.state) _ c.in_ok-settle.field-0 c.in-Some.choice c.in-Some.is c.in_ok-settle.ensures) c.in_ok-parts-in-Some.ensures x).1)

pub is_solvable-requires-in-loop-branch : goal.is_solvable-requires-in-loop-branch
is_solvable-requires-in-loop-branch t c =
    let f = joined_facts (known c.args.table.now c.args.values.now c.args.universals.now) (state_of c.args.state) c.in-Some.choice c.in_ok-parts-in-Some.parts c.branch-item.result c.in_ok-next-in-Some.next c.as_slice.result.now c.deref-branch-items.result.now c.loop-branch.branch-index (choice_of (known c.args.table.now c.args.values.now c.args.universals.now) (state_of c.args.state) _ c.in_ok-settle.field-0 c.in-Some.choice c.in-Some.is c.in_ok-settle.ensures) c.in_ok-parts-in-Some.ensures c.deref-branch-items.ensures.value c.loop-branch-test.true c.branch-item.is c.as_slice.ensures.value c.in_ok-next-in-Some.ensures in
    let lt : sizes (map goal_of c.in_ok-next-in-Some.next.goals.items) < sizes (map goal_of c.args.state.goals.items) = f.0 in
    let d : sizes (map goal_of c.args.state.goals.items) ≡ t = c.decreases in
    (omega (arith, lt, d), f.1)

pub returns-then-branch : goal.returns-then-branch
returns-then-branch t c =
    (λ e. next_solves (known c.args.table.now c.args.values.now c.args.universals.now) (state_of c.args.state) c.in-Some.choice c.in_ok-parts-in-Some.parts c.branch-item.result c.in_ok-next-in-Some.next c.as_slice.result.now c.deref-branch-items.result.now c.loop-branch.branch-index (choice_of (known c.args.table.now c.args.values.now c.args.universals.now) (state_of c.args.state) _ c.in_ok-settle.field-0 c.in-Some.choice c.in-Some.is c.in_ok-settle.ensures) c.in_ok-parts-in-Some.ensures c.deref-branch-items.ensures.value c.loop-branch-test.true c.branch-item.is c.as_slice.ensures.value c.in_ok-next-in-Some.ensures (c.in_ok-is_solvable-in-Some.ensures.0 c.if-not-branch.false) (c.in_ok-is_solvable-in-Some-2.ensures.0 c.if-branch.true), λ x. refl)

pub loop-branch-preserved : goal.loop-branch-preserved
loop-branch-preserved t c =
    next_fails (known c.args.table.now c.args.values.now c.args.universals.now) c.in_ok-parts-in-Some.parts c.branch-item.result c.in_ok-next-in-Some.next c.as_slice.result.now c.deref-branch-items.result.now c.loop-branch.branch-index c.loop-branch-test.true c.branch-item.is c.as_slice.ensures.value c.in_ok-next-in-Some.ensures
    (λ x. false_true (sym c.if-branch.false ∙ c.in_ok-is_solvable-in-Some-2.ensures.1 x)) c.loop-branch.invariant

pub returns-after-loop-branch : goal.returns-after-loop-branch
returns-after-loop-branch t c = (
  λ e. absurd (false_true e),
  λ x. absurd (none_solves (known c.args.table.now c.args.values.now c.args.universals.now) (state_of c.args.state) c.in-Some.choice c.in_ok-parts-in-Some.parts (choice_of (known c.args.table.now c.args.values.now c.args.universals.now) (state_of c.args.state) _ c.in_ok-settle.field-0 c.in-Some.choice c.in-Some.is c.in_ok-settle.ensures) c.in_ok-parts-in-Some.ensures
      (none_of_all (λ b. Solvable (known c.args.table.now c.args.values.now c.args.universals.now) (b.0 ++ map goal_of c.in_ok-parts-in-Some.parts.near.items) b.1) state_of c.deref-branch-items.result.now c.in-Some.choice.branches.items c.loop-branch.branch-index c.deref-branch-items.ensures.value c.loop-branch-test.false c.loop-branch.invariant) x),
)
