use Rattle.std.proofs.Common.{length}
use Rattle.mz_types.proofs.structure_types.+first_gives.Given as goal

abbrev pub decreases-first_gives : goal.decreases-first_gives
decreases-first_gives l = length l.members.now
