use Rattle.std.proofs.Common.{Ok}
use Rattle.mz_corpus.specs.Corpus.{Corpus}
use Rattle.mz_corpus.specs.Gather.{Gathered, Gathers, IsCorpusOf}
use Rattle.mz_corpus.proofs.GatherLemmas.{answer_same}
use Rattle.mz_corpus.proofs.gather.gather.Goals as goal

pub returns-in-Err-clause-told : goal.returns-in-Err-clause-told
returns-in-Err-clause-told g c = λ files e.
    answer_same {X = Gathered} {Y = Corpus} (Gathers files c.args.names.now) (λ h. Gathers files c.args.names.now (Ok h)) (λ k. (h : Gathered) × Gathers files c.args.names.now (Ok h) × IsCorpusOf h k) c.in-Err.fault
    (c.in-Err.ensures.told files e)
