use Rattle.std.proofs.Common.{◌∙◌, ap}
use Rattle.mz_by.proofs.ExamineLemmas.{step_no, step_over, found, ends_over, ends_open}
use Rattle.mz_by.proofs.examine.examine_by.Goals as goal
use Rattle.mz_by.proofs.examine.examine_by.Goals.{in-No, in-Over}

pub returns-in-Yes : goal.returns-in-Yes
returns-in-Yes c = λ cs h. found _ cs _ _ _ _ c.loop-u-test.true c.u-item.is (c.deref-u-items.ensures.value ∙ ap (λ x. x.universals) c.d.view_is) c.in-Yes.is (c.in_ok-refuted.ensures cs h)

pub loop-u-preserved : goal.loop-u-preserved
loop-u-preserved c = λ cs h. elim c.match-branch-2.branch [ in-No w ↦ step_no _ cs _ _ _ _ _ _ c.loop-u-test.true c.u-item.is w.in-No.is w.first-is (c.in_ok-refuted.ensures cs h) (c.loop-u.invariant cs h) | in-Over w ↦ step_over _ cs _ _ _ _ _ _ _ _ c.loop-u-test.true c.u-item.is w.in-Over.is w.or-first.ensures w.first-is (c.in_ok-refuted.ensures cs h) (c.loop-u.invariant cs h) ]

pub returns-in-Some : goal.returns-in-Some
returns-in-Some c = λ cs h. ends_over _ cs _ _ _ _ c.loop-u-test.false (c.deref-u-items.ensures.value ∙ ap (λ x. x.universals) c.d.view_is) c.in-Some.is (c.loop-u.invariant cs h)

pub returns-in-None : goal.returns-in-None
returns-in-None c = λ cs h. ends_open _ cs _ _ _ c.loop-u-test.false (c.deref-u-items.ensures.value ∙ ap (λ x. x.universals) c.d.view_is) c.in-None.is (c.loop-u.invariant cs h)
