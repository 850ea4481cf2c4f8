use Rattle.mz_registered_laws.proofs.OneProofs.{one_registrations}
use Rattle.mz_registered_laws.proofs.laws.one_registrations_law.Goals as goal

pub returns : goal.returns
returns c = one_registrations
