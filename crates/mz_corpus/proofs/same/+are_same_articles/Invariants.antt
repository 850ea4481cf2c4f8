use Rattle.std.proofs.Common.{length}
use Rattle.mz_corpus.proofs.same.+are_same_articles.Given as goal

abbrev pub decreases-are_same_articles : goal.decreases-are_same_articles
decreases-are_same_articles l = length l.a.now
