use Rattle.mz_thesis_laws.proofs.RowProofs.{consider_law, define_law}
use Rattle.mz_thesis_laws.proofs.laws.constant_law.Goals as goal

pub returns-clause-consider : goal.returns-clause-consider
returns-clause-consider c = consider_law

pub returns-clause-define : goal.returns-clause-define
returns-clause-define c = define_law
