use Rattle.std.specs.Prelude.{reverse}
use Rattle.mz_types.proofs.ChainLemmas.{told_popped, told_smaller}
use Rattle.mz_types.proofs.chain.walk.Goals as goal

pub loop-r-smaller : goal.loop-r-smaller
loop-r-smaller c =
    told_smaller c.args.clauses.now c.args.env.now c.args.ctx.now c.loop-r.stack c.pop.new.self c.append.new.self c.loop-r.out c.visit.new.out c.in_ok-xs.xs c.in-Some.r
    c.in-Some.ensures c.in_ok-xs.ensures c.in_ok-append.ensures

pub loop-r-preserved : goal.loop-r-preserved
loop-r-preserved c =
    told_popped c.args.clauses.now c.args.env.now c.args.ctx.now (reverse c.args.first) c.loop-r.stack c.pop.new.self c.append.new.self c.loop-r.out c.visit.new.out c.in_ok-xs.xs c.in-Some.r
    c.in-Some.ensures c.in_ok-xs.ensures c.in_ok-append.ensures c.loop-r.invariant
