use Rattle.std.proofs.Common.{◌+◌, refl}
use Rattle.mz_from.proofs.VerdictLemmas.{told_first_differs, told_later_differs, told_none_differs, one_less, still_fewer}
use Rattle.mz_from.proofs.verdict.differs.Goals as goal

pub returns-then-not-branch : goal.returns-then-not-branch
returns-then-not-branch c =
    told_first_differs c.args.letters.now c.loop-p.above (c.loop-p.above + 1) c.in-Some.p.now c.in-Some-split_first.s.now c.loop-p.ps.now c.in-Some.other_ps.now c.args.premises.now c.loop-p.ss.now c.in-Some-split_first.other_ss.now c.args.cited.now c.in_ok-is_instance.field-0
    c.in-Some.ensures.cases.0 c.in-Some-split_first.ensures.cases.0 c.in_ok-is_instance.ensures c.if-not-branch.true refl c.loop-p.invariant.2

pub loop-p-preserved : goal.loop-p-preserved
loop-p-preserved c = (
  one_less c.in-Some.p.now c.in-Some-split_first.s.now c.loop-p.ps.now c.in-Some.other_ps.now c.loop-p.ss.now c.in-Some-split_first.other_ss.now c.in-Some.ensures.cases.0 c.in-Some-split_first.ensures.cases.0 c.loop-p.invariant.0,
  still_fewer c.loop-p.above c.in-Some.p.now c.loop-p.ps.now c.in-Some.other_ps.now c.args.premises.now c.in-Some.ensures.cases.0 c.loop-p.invariant.1,
  told_later_differs c.args.letters.now c.loop-p.above (c.loop-p.above + 1) c.in-Some.p.now c.in-Some-split_first.s.now c.loop-p.ps.now c.in-Some.other_ps.now c.args.premises.now c.loop-p.ss.now c.in-Some-split_first.other_ss.now c.args.cited.now c.in_ok-is_instance.field-0
      c.in-Some.ensures.cases.0 c.in-Some-split_first.ensures.cases.0 c.in_ok-is_instance.ensures c.if-not-branch.false refl c.loop-p.invariant.2,
)

pub returns : goal.returns
returns c =
    told_none_differs c.args.letters.now c.loop-p.above c.loop-p.ps.now c.args.premises.now c.loop-p.ss.now c.args.cited.now c.in_default.ensures.cases c.loop-p.invariant.0 c.loop-p.invariant.2
