use Rattle.mz_corpus.proofs.MadeLemmas.{IsCorpus-made}
use Rattle.mz_corpus.proofs.corpus.Corpus.from_fit.Goals as goal

pub invariant_of-result : goal.invariant_of-result
invariant_of-result c = IsCorpus-made _ _ _ _ c.in_ok-links.ensures c.requires c.in_ok-articles.ensures
