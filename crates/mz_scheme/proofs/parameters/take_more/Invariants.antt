use Rattle.std.proofs.Common.{length}
use Rattle.mz_scheme_items.specs.Parameters.{scope, TakesParameter}
use Rattle.mz_scheme.proofs.LoopLemmas.{Going}
use Rattle.mz_scheme.proofs.parameters.take_more.Given as goal

abbrev pub invariant-loop-next : goal.invariant-loop-next
invariant-loop-next l = Going (TakesParameter l.env l.least) (scope l.ctx l.left) l.rest (scope l.fn.ctx l.fn.left) l.trees

abbrev pub decreases-loop-next : goal.decreases-loop-next
decreases-loop-next l = length l.rest
