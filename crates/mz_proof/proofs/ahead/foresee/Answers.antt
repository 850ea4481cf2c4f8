use Rattle.std.proofs.Common.{refl}
use Rattle.mz_tree_proof.specs.Reasoning.{supposes_of, more_supposes}
use Rattle.mz_proof.proofs.AheadLemmas.{told_foreseen}
use Rattle.mz_proof.proofs.ahead.foresee.Goals as goal

pub returns-clause-foresees : goal.returns-clause-foresees
returns-clause-foresees c =
    told_foreseen c.args.walker.env.now c.args.ctx.now _ c.args.opening.first c.args.left.now c.args.opening.linked c.args.tree.now (more_supposes c.args.case.now (supposes_of c.args.more.now)) _ _ _ _ _ _ c.foresee_instances.result
    c.is_linked.ensures c.if-not-is_linked.false c.new-supposed.ensures c.in_ok-read_ahead.ensures.reads c.if-not-branch.false refl c.in_ok-read_ahead.ensures.same c.in_ok-disjunction.ensures c.foresee_instances.ensures
