use Rattle.mz_row_laws.proofs.RowProofs.{functor_row_law, mode_row_law, letter_row_law}
use Rattle.mz_row_laws.proofs.laws.row_law.Goals as goal

pub returns-clause-functors : goal.returns-clause-functors
returns-clause-functors c = functor_row_law

pub returns-clause-modes : goal.returns-clause-modes
returns-clause-modes c = mode_row_law

pub returns-clause-letters : goal.returns-clause-letters
returns-clause-letters c = letter_row_law
