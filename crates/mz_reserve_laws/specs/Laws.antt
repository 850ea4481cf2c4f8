-- The law of reservations: they lead to one context, or to one refusal.
use Rattle.std.specs.Prelude.{List}
use Rattle.mz_core.specs.declared.outcome.Left.{Left}
use Rattle.mz_context.specs.declared.context.Context.{Context}
use Rattle.mz_environment.specs.declared.environment.Environment.{Environment}
use Rattle.mz_tree_part.specs.declared.reserve.SegmentTree.{SegmentTree}
use Rattle.mz_reserve.specs.Reserve.{Reserves}
use Rattle.mz_justified_laws.specs.Determined.{IsDetermined}

abbrev pub OneReservationLaw : Type 0
OneReservationLaw = (e : Environment) (c : Context) (left : Left) (ss : List SegmentTree) → IsDetermined (Reserves e c left ss)
