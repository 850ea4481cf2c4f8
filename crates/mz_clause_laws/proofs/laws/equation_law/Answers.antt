use Rattle.mz_clause_laws.proofs.RowProofs.{equation_law}
use Rattle.mz_clause_laws.proofs.laws.equation_law.Goals as goal

pub returns : goal.returns
returns c = equation_law
