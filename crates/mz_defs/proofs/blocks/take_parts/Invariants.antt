use Rattle.std.proofs.Common.{length}
use Rattle.mz_taken.proofs.OneByOneProofs.{Reading}
use Rattle.mz_define.specs.Defines.{with_places, TakesPart}
use Rattle.mz_defs.proofs.blocks.take_parts.Given as goal

abbrev pub invariant-loop-part : goal.invariant-loop-part
invariant-loop-part g l = Reading (TakesPart l.least) l.s l.os (with_places l.end l.rest) l.initial.s l.initial.os (with_places l.end l.parts)

abbrev pub decreases-loop-part : goal.decreases-loop-part
decreases-loop-part g l = length l.rest
