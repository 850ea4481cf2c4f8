use Rattle.mz_registered_laws.proofs.GrowProofs.{grows_registrations}
use Rattle.mz_registered_laws.proofs.KeepProofs.{keeps_registrations}
use Rattle.mz_registered_laws.proofs.laws.keeps_registrations_law.Goals as goal

pub returns-clause-grows : goal.returns-clause-grows
returns-clause-grows c = grows_registrations

pub returns-clause-keeps : goal.returns-clause-keeps
returns-clause-keeps c = keeps_registrations
