use Rattle.mz_register_laws.proofs.KindProofs.{registrations_grows, registrations_keeps, registrations_one}
use Rattle.mz_register_laws.proofs.laws.register_law.Goals as goal

pub returns-clause-grows : goal.returns-clause-grows
returns-clause-grows c = registrations_grows

pub returns-clause-keeps : goal.returns-clause-keeps
returns-clause-keeps c = registrations_keeps

pub returns-clause-one : goal.returns-clause-one
returns-clause-one c = registrations_one
