use Rattle.std.proofs.Common.{refl}
use Rattle.mz_corpus.proofs.MadeLemmas.{IsArticleOf-viewed}
use Rattle.mz_corpus.proofs.made.article_of.Goals as goal

pub returns : goal.returns
returns c =
    IsArticleOf-viewed c.args.links.now c.args.vocabularies.now _ c.args.source.now _ _ _ _ _ _ _ c.source.view_is refl c.in_ok-text.ensures c.in_ok-dependencies.ensures c.in_ok-vocabulary_names.ensures c.in_ok-direct.ensures
    c.in_ok-reach.ensures c.in_ok-vocabularies.ensures c.requires.fit c.requires.apart
