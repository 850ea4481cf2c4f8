use Rattle.std.proofs.Common.{sym, ◌∙◌}
use Rattle.mz_corpus.proofs.MadeLemmas.{IsFit-tested}
use Rattle.mz_corpus.proofs.corpus.Corpus.new.Goals as goal

pub from_fit-requires : goal.from_fit-requires
from_fit-requires c = IsFit-tested _ _ (sym c.in_ok-fit.ensures ∙ c.if-not-fit.false)
