use Rattle.mz_clause_laws.proofs.PropertyProofs.{property_law}
use Rattle.mz_clause_laws.proofs.laws.property_law.Goals as goal

pub returns : goal.returns
returns c = property_law
