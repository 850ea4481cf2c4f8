use Rattle.mz_heading.proofs.HeadingLemmas.{told_hidden, told_other}
use Rattle.mz_heading.proofs.modes.take_mode.Goals as goal

pub returns-then-hidden : goal.returns-then-hidden
returns-then-hidden g c = told_hidden _ c.args.least c.args.s.now _ c.args.t.now c.args.ws.now c.args.behind _ _ _ c.not_built.result c.in_ok-hidden.ensures c.if-hidden.true c.not_built.ensures

pub returns : goal.returns
returns g c = told_other c.args.least c.args.s.now _ c.args.t.now c.args.ws.now c.args.behind c.take_other.result _ _ _ c.in_ok-hidden.ensures c.if-hidden.false c.take_other.ensures
