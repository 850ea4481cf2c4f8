use Rattle.mz_clause_laws.proofs.RowProofs.{conditional_law}
use Rattle.mz_clause_laws.proofs.laws.conditional_law.Goals as goal

pub returns : goal.returns
returns c = conditional_law
