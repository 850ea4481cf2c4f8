use Rattle.mz_structure_laws.proofs.KindProofs.{structures_grow, structures_keep, one_structure}
use Rattle.mz_structure_laws.proofs.laws.structure_law.Goals as goal

pub returns-clause-grows : goal.returns-clause-grows
returns-clause-grows c = structures_grow

pub returns-clause-keeps : goal.returns-clause-keeps
returns-clause-keeps c = structures_keep

pub returns-clause-one : goal.returns-clause-one
returns-clause-one c = one_structure
