use Rattle.std.proofs.Common.{drop}
use Rattle.mz_tree_proof.specs.Reasoning.{supposes_of, more_supposes}
use Rattle.mz_proof.proofs.AheadLemmas.{ReadingAt}
use Rattle.mz_proof.proofs.ahead.read_cases.Given as goal

abbrev pub invariant-loop-t : goal.invariant-loop-t
invariant-loop-t l = ReadingAt l.walker.env.now l.ctx (drop l.t-index l.t-items) l.left l.out l.fn.ctx (more_supposes l.case (supposes_of l.more)) l.fn.left l.fn.out
