use Rattle.mz_clause_laws.proofs.StructureProofs.{part_law}
use Rattle.mz_clause_laws.proofs.laws.part_law.Goals as goal

pub returns : goal.returns
returns c = part_law
