use Rattle.mz_context.proofs.RoundLemmas.{told_constants}
use Rattle.mz_context.proofs.gather.constants_of.Goals as goal

pub returns : goal.returns
returns c = told_constants c.args.constants.now c.args.l.now c.in_ok-count.count c.in_ok-ns.ns.items c.in_ok-count.ensures c.in_ok-ns.ensures
