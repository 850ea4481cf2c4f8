use Rattle.mz_row_laws.proofs.RowProofs.{functor_clause_law, mode_clause_law, letter_clause_law}
use Rattle.mz_row_laws.proofs.laws.row_clause_law.Goals as goal

pub returns-clause-functors : goal.returns-clause-functors
returns-clause-functors c = functor_clause_law

pub returns-clause-modes : goal.returns-clause-modes
returns-clause-modes c = mode_clause_law

pub returns-clause-letters : goal.returns-clause-letters
returns-clause-letters c = letter_clause_law
