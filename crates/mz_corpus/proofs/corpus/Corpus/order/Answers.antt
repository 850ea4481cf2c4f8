use Rattle.std.proofs.Common.{ap, ◌∙◌}
use Rattle.mz_corpus.specs.Ascending.{sorted_names}
use Rattle.mz_corpus.proofs.OrderLemmas.{IsOrder-viewed}
use Rattle.mz_corpus.proofs.corpus.Corpus.order.Goals as goal

pub returns : goal.returns
returns c = IsOrder-viewed _ _ _ _ _ _ c.articles-articles.ensures c.in_ok-taken.ensures c.in_ok-left.ensures (c.in_ok-rest.ensures ∙ ap sorted_names c.as_slice.ensures) c.in_ok-order.ensures
