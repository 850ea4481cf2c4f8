use Rattle.mz_reserve_laws.proofs.OneReservation.{one_reservation}
use Rattle.mz_reserve_laws.proofs.laws.one_reservation_law.Goals as goal

pub returns : goal.returns
returns c = one_reservation
