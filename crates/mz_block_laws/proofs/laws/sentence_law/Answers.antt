use Rattle.mz_block_laws.proofs.BlockProofs.{sentence_law}
use Rattle.mz_block_laws.proofs.OrderLemmas.{sentence_stands_law}
use Rattle.mz_block_laws.proofs.laws.sentence_law.Goals as goal

pub returns-clause-derives : goal.returns-clause-derives
returns-clause-derives c = sentence_law

pub returns-clause-stands : goal.returns-clause-stands
returns-clause-stands c = sentence_stands_law
