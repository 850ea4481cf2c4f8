use Rattle.std.proofs.Common.{length}
use Rattle.mz_taken.proofs.OneByOneProofs.{Reading}
use Rattle.mz_registered.specs.Blocks.{with_places, TakesPart}
use Rattle.mz_registering.proofs.block.take_parts.Given as goal

abbrev pub invariant-loop-p : goal.invariant-loop-p
invariant-loop-p g l = Reading (TakesPart l.least) l.s l.os (with_places l.end l.rest) l.fn.s l.fn.os (with_places l.end l.ps)

abbrev pub decreases-loop-p : goal.decreases-loop-p
decreases-loop-p g l = length l.rest
