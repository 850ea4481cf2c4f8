use Rattle.mz_level_laws.proofs.ClosedLemmas.{closed_law}
use Rattle.mz_level_laws.proofs.SentenceProofs.{sentence_law}
use Rattle.mz_level_laws.proofs.LevelProofs.{start_law, reading_law, reservation_law}
use Rattle.mz_level_laws.proofs.laws.level_law.Goals as goal

pub returns-clause-start : goal.returns-clause-start
returns-clause-start c = start_law

pub returns-clause-reading : goal.returns-clause-reading
returns-clause-reading c = reading_law

pub returns-clause-reservation : goal.returns-clause-reservation
returns-clause-reservation c = reservation_law

pub returns-clause-sentence : goal.returns-clause-sentence
returns-clause-sentence c = sentence_law

pub returns-clause-closed : goal.returns-clause-closed
returns-clause-closed c = closed_law
