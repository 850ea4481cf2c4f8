use Rattle.mz_clause_laws.proofs.StructureProofs.{aggregate_law}
use Rattle.mz_clause_laws.proofs.laws.aggregate_law.Goals as goal

pub returns : goal.returns
returns c = aggregate_law
