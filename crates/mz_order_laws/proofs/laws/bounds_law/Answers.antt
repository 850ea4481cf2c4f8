use Rattle.mz_order_laws.proofs.BoundLemmas.{order_bounded}
use Rattle.mz_order_laws.proofs.laws.bounds_law.Goals as goal

pub returns : goal.returns
returns c = order_bounded
