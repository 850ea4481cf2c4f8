use Rattle.mz_corpus.proofs.CyclicLemmas.{cyclic_depends, cyclic_rest}
use Rattle.mz_corpus.proofs.laws.cyclic_law.Goals as goal

pub returns-clause-depends : goal.returns-clause-depends
returns-clause-depends c = cyclic_depends

pub returns-clause-rest : goal.returns-clause-rest
returns-clause-rest c = cyclic_rest
