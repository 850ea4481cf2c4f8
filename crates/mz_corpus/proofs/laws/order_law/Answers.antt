use Rattle.mz_corpus.proofs.OnceLemmas.{one_order}
use Rattle.mz_corpus.proofs.laws.order_law.Goals as goal

pub returns : goal.returns
returns c = one_order c.args.articles.now
