use Rattle.mz_thesis_laws.proofs.RowProofs.{let_law, assume_law, thus_law, take_law}
use Rattle.mz_thesis_laws.proofs.laws.row_law.Goals as goal

pub returns-clause-let_ : goal.returns-clause-let_
returns-clause-let_ c = let_law

pub returns-clause-assume : goal.returns-clause-assume
returns-clause-assume c = assume_law

pub returns-clause-thus : goal.returns-clause-thus
returns-clause-thus c = thus_law

pub returns-clause-take : goal.returns-clause-take
returns-clause-take c = take_law
