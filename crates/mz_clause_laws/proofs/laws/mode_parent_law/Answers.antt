use Rattle.mz_clause_laws.proofs.RowProofs.{mode_parent_law}
use Rattle.mz_clause_laws.proofs.laws.mode_parent_law.Goals as goal

pub returns : goal.returns
returns c = mode_parent_law
