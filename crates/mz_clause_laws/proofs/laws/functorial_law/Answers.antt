use Rattle.mz_clause_laws.proofs.RowProofs.{functorial_law}
use Rattle.mz_clause_laws.proofs.laws.functorial_law.Goals as goal

pub returns : goal.returns
returns c = functorial_law
