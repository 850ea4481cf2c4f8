use Rattle.std.proofs.Common.{refl, arith, map, ◌-◌}
use Rattle.std.specs.Arc.{arc_value}
use Rattle.mz_choice.proofs.FirstLemmas.{told_this, told_not, told_other}
use Rattle.mz_choice.proofs.choice.first_passes.Goals as goal

pub returns-in-Some : goal.returns-in-Some
returns-in-Some c = told_this c.args.clauses.now c.args.env.now c.args.ctx.now c.args.w.now c.args.args.now c.args.a.now (map arc_value c.args.xs.now) c.loop-count.count (c.loop-count.count - 1) c.notation_at-x.result.now c.is_candidate.result c.in_ok-m.field-0 c.in-Some.m refl c.loop-count-test.true c.notation_at-x.ensures c.is_candidate.ensures c.if-is_candidate.true c.in_ok-m.ensures c.in-Some.is c.loop-count.invariant.1

pub loop-count-preserved-in-None : goal.loop-count-preserved-in-None
loop-count-preserved-in-None c = (omega (arith, c.loop-count.invariant.0), told_not c.args.clauses.now c.args.env.now c.args.ctx.now c.args.w.now c.args.args.now c.args.a.now (map arc_value c.args.xs.now) c.loop-count.count (c.loop-count.count - 1) c.notation_at-x.result.now c.is_candidate.result c.in_ok-m.field-0 refl c.loop-count-test.true c.notation_at-x.ensures c.is_candidate.ensures c.if-is_candidate.true c.in_ok-m.ensures c.in-None.is c.loop-count.invariant.1)

pub loop-count-preserved : goal.loop-count-preserved
loop-count-preserved c = (omega (arith, c.loop-count.invariant.0), told_other c.args.clauses.now c.args.env.now c.args.ctx.now c.args.w.now c.args.args.now c.args.a.now (map arc_value c.args.xs.now) c.loop-count.count (c.loop-count.count - 1) c.notation_at-x.result.now c.is_candidate.result refl c.loop-count-test.true c.notation_at-x.ensures c.is_candidate.ensures c.if-is_candidate.false c.loop-count.invariant.1)
