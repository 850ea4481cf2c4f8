use Rattle.std.proofs.Common.{length}
use Rattle.mz_structs.proofs.heading.+push_groups.Given as goal

abbrev pub decreases-push_groups : goal.decreases-push_groups
decreases-push_groups l = length l.ts.now
