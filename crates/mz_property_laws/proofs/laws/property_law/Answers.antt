use Rattle.mz_property_laws.proofs.KeepProofs.{properties_grow, properties_keep}
use Rattle.mz_property_laws.proofs.OneProofs.{one_properties}
use Rattle.mz_property_laws.proofs.laws.property_law.Goals as goal

pub returns-clause-grows : goal.returns-clause-grows
returns-clause-grows c = properties_grow

pub returns-clause-keeps : goal.returns-clause-keeps
returns-clause-keeps c = properties_keep

pub returns-clause-one : goal.returns-clause-one
returns-clause-one c = one_properties
