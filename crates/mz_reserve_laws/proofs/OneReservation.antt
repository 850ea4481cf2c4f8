-- What reservations lead to, and what the article has left behind them, is determined.
use Rattle.std.proofs.Common.{List, [], ◌∷◌, refl}
use Rattle.std.specs.Prelude.{Result, Ok, Err}
use Rattle.mz_core.specs.declared.outcome.Left.{Left}
use Rattle.mz_core.specs.declared.soft_type.SoftType.{SoftType}
use Rattle.mz_context.specs.declared.context.Context.{Context}
use Rattle.mz_environment.specs.declared.environment.Environment.{Environment}
use Rattle.mz_names.specs.declared.refusal.Refusal.{Refusal}
use Rattle.mz_resolve.specs.Calls.{TypeRead}
use Rattle.mz_cited.specs.Cited.{members}
use Rattle.mz_tree_part.specs.declared.reserve.SegmentTree.{SegmentTree}
use Rattle.mz_reserve.specs.Reserve as re
use Rattle.mz_reserve.specs.Reserve.{with_reserved, Reserves}
use Rattle.mz_justified_laws.specs.Determined.{IsDetermined}
use Rattle.mz_justified_laws.proofs.Sequence.{determined_by, IsValue, determined_value, ThenRead, determined_then, as_it_is}
use Rattle.mz_parts_laws.proofs.OneExpression.{one_type_read}
use Rattle.mz_reserve_laws.specs.Laws.{OneReservationLaw}

abbrev ReservedNext : Environment → Context → SegmentTree → List SegmentTree → SoftType → Left → Result Context Refusal → Left → Type 0
ReservedNext e c s ss ty l o a = Reserves e (with_reserved c ty (members s.identifiers)) l ss o a

abbrev ReservesAs : Environment → Context → Left → List SegmentTree → Result Context Refusal → Left → Type 0
ReservesAs e c left [] o a = IsValue (Ok c) left o a
ReservesAs e c left (s ∷ ss) o a = ThenRead (TypeRead e c 0 left s.ty) as_it_is (ReservedNext e c s ss) o a

reserves_as : (e : Environment) (c : Context) (left : Left) (ss : List SegmentTree) (o : Result Context Refusal) (a : Left) → Reserves e c left ss o a → ReservesAs e c left ss o a
reserves_as e c left ss o a (re.no_more _ _) = (refl, refl)
reserves_as e c left ss o a (re.type_refused _ _ _ s rest r h) = (Err r, a, h, refl)
reserves_as e c left ss o a (re.reserved _ _ between _ s rest ty _ h k) = (Ok ty, between, h, k)

one_reserved : (e : Environment) (ss : List SegmentTree) (c : Context) (left : Left) → IsDetermined (Reserves e c left ss)
one_reserved e [] c left = determined_by (Reserves e c left []) (ReservesAs e c left []) (reserves_as e c left []) (determined_value (Ok c) left)
one_reserved e (s ∷ ss) c left =
    determined_by (Reserves e c left (s ∷ ss)) (ReservesAs e c left (s ∷ ss)) (reserves_as e c left (s ∷ ss))
    (determined_then (TypeRead e c 0 left s.ty) as_it_is (ReservedNext e c s ss) (one_type_read e c 0 left s.ty) (λ (ty : SoftType) (l : Left). one_reserved e ss (with_reserved c ty (members s.identifiers)) l))

pub one_reservation : OneReservationLaw
one_reservation e c left ss = one_reserved e ss c left
