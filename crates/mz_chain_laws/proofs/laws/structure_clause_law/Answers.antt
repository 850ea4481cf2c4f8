use Rattle.mz_chain_laws.proofs.StructureClauses.{structure_clause_law}
use Rattle.mz_chain_laws.proofs.laws.structure_clause_law.Goals as goal

pub returns : goal.returns
returns c = structure_clause_law
