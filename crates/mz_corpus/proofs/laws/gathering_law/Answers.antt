use Rattle.mz_corpus.proofs.OneGatheringLemmas.{one_gathering}
use Rattle.mz_corpus.proofs.OneCorpusLemmas.{one_corpus}
use Rattle.mz_corpus.proofs.laws.gathering_law.Goals as goal

pub returns-clause-gathering : goal.returns-clause-gathering
returns-clause-gathering c = one_gathering

pub returns-clause-corpus : goal.returns-clause-corpus
returns-clause-corpus c = one_corpus
