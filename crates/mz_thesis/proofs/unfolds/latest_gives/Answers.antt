use Rattle.std.proofs.Common.{◌-◌, refl, arith}
use Rattle.mz_thesis.proofs.UnfoldingLemmas.{told_this, told_not, told_other}
use Rattle.mz_thesis.proofs.unfolds.latest_gives.Goals as goal

pub returns-in-Some : goal.returns-in-Some
returns-in-Some c =
    told_this c.args.clauses.now c.args.constants.now c.args.sought c.args.terms.now c.args.unfoldings.now c.loop-count.count (c.loop-count.count - 1) c.at-u.result.now c.is_sought.result c.in_ok-s.field-0 c.in-Some.s refl c.loop-count-test.true c.loop-count.invariant.0
    c.at-u.ensures c.is_sought.ensures c.if-is_sought.true c.in_ok-s.ensures c.in-Some.is c.loop-count.invariant.1

pub loop-count-preserved-in-None : goal.loop-count-preserved-in-None
loop-count-preserved-in-None c = (
  omega (arith, c.loop-count.invariant.0),
  told_not c.args.clauses.now c.args.constants.now c.args.sought c.args.terms.now c.args.unfoldings.now c.loop-count.count (c.loop-count.count - 1) c.at-u.result.now c.is_sought.result c.in_ok-s.field-0 refl c.loop-count-test.true c.loop-count.invariant.0
      c.at-u.ensures c.is_sought.ensures c.if-is_sought.true c.in_ok-s.ensures c.in-None.is c.loop-count.invariant.1,
)

pub loop-count-preserved : goal.loop-count-preserved
loop-count-preserved c = (
  omega (arith, c.loop-count.invariant.0),
  told_other c.args.clauses.now c.args.constants.now c.args.sought c.args.terms.now c.args.unfoldings.now c.loop-count.count (c.loop-count.count - 1) c.at-u.result.now c.is_sought.result refl c.loop-count-test.true c.loop-count.invariant.0
      c.at-u.ensures c.is_sought.ensures c.if-is_sought.false c.loop-count.invariant.1,
)
