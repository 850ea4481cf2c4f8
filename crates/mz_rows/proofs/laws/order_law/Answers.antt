use Rattle.mz_rows.proofs.OrderLemmas.{begins_order}
use Rattle.mz_rows.proofs.laws.order_law.Goals as goal

pub returns : goal.returns
returns c = begins_order
