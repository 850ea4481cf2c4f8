use Rattle.std.proofs.Common.{subst, ◌∙◌}
use Rattle.std.specs.Prelude.{Contains}
use Rattle.mz_corpus.proofs.MadeLemmas.{AreArticles-turn, AreKnown-source, AreKnown-links, IsFitSource-links, Contains-item}
use Rattle.mz_corpus.proofs.made.articles_of.Goals as goal

pub article_of-requires-clause-known : goal.article_of-requires-clause-known
article_of-requires-clause-known c =
    AreKnown-source _ _ _ _ c.requires.links c.requires.fit
    (subst (λ ss. Contains ss c.source-item.result) (c.deref-source-items.ensures.value ∙ c.sources.view_is) (Contains-item _ _ _ c.loop-source-test.true c.source-item.is))

pub article_of-requires-clause-all_known : goal.article_of-requires-clause-all_known
article_of-requires-clause-all_known c = AreKnown-links _ _ _ c.requires.links c.requires.fit

pub article_of-requires-clause-fit : goal.article_of-requires-clause-fit
article_of-requires-clause-fit c =
    IsFitSource-links _ _ _ _ c.requires.links c.requires.fit
    (subst (λ ss. Contains ss c.source-item.result) (c.deref-source-items.ensures.value ∙ c.sources.view_is) (Contains-item _ _ _ c.loop-source-test.true c.source-item.is))

pub loop-source-preserved : goal.loop-source-preserved
loop-source-preserved c = AreArticles-turn _ _ _ _ _ _ _ _ c.loop-source-test.true c.source-item.is c.loop-source.invariant c.in_ok-article.ensures c.in_ok-push.ensures.items
