use Rattle.std.proofs.Common.{length}
use Rattle.mz_letters.proofs.declared.+declare_more_functors.Given as goal

abbrev pub decreases-declare_more_functors : goal.decreases-declare_more_functors
decreases-declare_more_functors l = length l.words.now
