use Rattle.mz_pproof.proofs.Stated.{may_given, nothing_continued}
use Rattle.mz_pproof.proofs.reasonings.continued.Goals as goal

pub returns-then-may : goal.returns-then-may
returns-then-may c = may_given c.args.may c.args.room _ _ _ c.if-may.true c.equality_steps.ensures

pub returns : goal.returns
returns c = nothing_continued c.args.may c.args.room _ _ c.if-may.false c.new-items.ensures.items
