use Rattle.std.proofs.Common.{sym, ap, ◌∙◌, subst}
use Rattle.mz_corpus.specs.Fit.{AreApart}
use Rattle.mz_corpus.specs.Gather.{is_fetched}
use Rattle.mz_corpus.proofs.OrderlyLemmas.{apart_pushed}
use Rattle.mz_corpus.proofs.gathering.Gathering.fetch_vocabulary.Goals as goal

pub returns-clause-apart : goal.returns-clause-apart
returns-clause-apart g c =
    subst (λ s. AreApart s.vocabularies → AreApart c.add_vocabulary.new.vocabularies) c.self.view_is
    (apart_pushed _ _ _ (ap (λ s. is_fetched s.vocabularies c.args.name.now) c.self.view_is ∙ sym c.has_vocabulary.ensures ∙ c.if-has_vocabulary.false) c.in_ok-add_vocabulary.ensures)
