use Rattle.std.proofs.Common.{length}
use Rattle.mz_taken.proofs.OneByOneProofs.{Reading}
use Rattle.mz_properties.specs.Properties.{TakesFurther}
use Rattle.mz_properties.proofs.properties.take_all_further.Given as goal

abbrev pub invariant-loop-w : goal.invariant-loop-w
invariant-loop-w g l = Reading (TakesFurther l.least l.count l.x l.owed) l.s l.os l.rest l.initial.s l.initial.os l.ws

abbrev pub decreases-loop-w : goal.decreases-loop-w
decreases-loop-w g l = length l.rest
