use Rattle.std.proofs.Common.{length}
use Rattle.mz_choice.proofs.choice.+first_member.Given as goal

abbrev pub decreases-first_member : goal.decreases-first_member
decreases-first_member l = length l.members.now
