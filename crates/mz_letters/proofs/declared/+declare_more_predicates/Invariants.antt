use Rattle.std.proofs.Common.{length}
use Rattle.mz_letters.proofs.declared.+declare_more_predicates.Given as goal

abbrev pub decreases-declare_more_predicates : goal.decreases-declare_more_predicates
decreases-declare_more_predicates l = length l.words.now
