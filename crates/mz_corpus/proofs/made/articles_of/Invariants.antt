use Rattle.std.proofs.Common.{take}
use Rattle.mz_corpus.specs.Made.{AreArticles}
use Rattle.mz_corpus.proofs.made.articles_of.Given as goal

abbrev pub invariant-loop-source : goal.invariant-loop-source
invariant-loop-source l = AreArticles l.links l.vocabularies (take l.source-index l.source-items) l.articles.items
