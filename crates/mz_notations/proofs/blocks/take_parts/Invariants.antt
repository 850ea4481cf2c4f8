use Rattle.std.proofs.Common.{length}
use Rattle.mz_notations.proofs.BlockLemmas.{Noting}
use Rattle.mz_notations.proofs.blocks.take_parts.Given as goal

abbrev pub invariant-loop-part : goal.invariant-loop-part
invariant-loop-part l = Noting l.least l.s l.rest l.initial.s l.parts

abbrev pub decreases-loop-part : goal.decreases-loop-part
decreases-loop-part l = length l.rest
