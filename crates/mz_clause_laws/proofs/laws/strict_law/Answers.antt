use Rattle.mz_clause_laws.proofs.StructureProofs.{strict_law}
use Rattle.mz_clause_laws.proofs.laws.strict_law.Goals as goal

pub returns : goal.returns
returns c = strict_law
