use Rattle.mz_problem.proofs.AddedLemmas.{told_none_added}
use Rattle.mz_problem.proofs.added.added.Goals as goal

pub loop-part-init : goal.loop-part-init
loop-part-init c = told_none_added c.args.clauses.now c.args.constants.now c.args.unfoldings.now c.args.parts.now c.new-out.result c.new-out.ensures
