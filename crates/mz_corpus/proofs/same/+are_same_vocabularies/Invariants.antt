use Rattle.std.proofs.Common.{length}
use Rattle.mz_corpus.proofs.same.+are_same_vocabularies.Given as goal

abbrev pub decreases-are_same_vocabularies : goal.decreases-are_same_vocabularies
decreases-are_same_vocabularies l = length l.a.now
