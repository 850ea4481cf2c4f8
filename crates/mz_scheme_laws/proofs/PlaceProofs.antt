-- What the types of places are read to, and what the article has left behind them, is determined.
use Rattle.std.proofs.Common.{◌≡◌, ℕ, List, [], ◌∷◌, ◌++◌, Option, refl}
use Rattle.std.specs.Prelude.{Result, Ok, Err}
use Rattle.mz_core.specs.declared.outcome.Left.{Left}
use Rattle.mz_core.specs.declared.soft_type.SoftType.{SoftType}
use Rattle.mz_context.specs.declared.context.Context.{Context}
use Rattle.mz_environment.specs.declared.environment.Environment.{Environment}
use Rattle.mz_names.specs.declared.refusal.Refusal.{Refusal}
use Rattle.mz_tree.specs.Trees.{TypeData}
use Rattle.mz_tree.specs.declared.lists.Separated.{Separated}
use Rattle.mz_resolve.specs.Calls.{TypeRead}
use Rattle.mz_places.specs.Places as pl
use Rattle.mz_places.specs.Places.{TypesReadBehind, types_in, PlacesRead}
use Rattle.mz_justified_laws.specs.Determined.{IsDetermined}
use Rattle.mz_justified_laws.proofs.Sequence.{determined_by, IsValue, determined_value, ThenRead, determined_then, as_it_is}
use Rattle.mz_parts_laws.proofs.OneExpression.{one_type_read}

-- types one after another
abbrev BehindNext : Environment → Context → ℕ → List TypeData → List SoftType → SoftType → Left → Result (List SoftType) Refusal → Left → Type 0
BehindNext e c least ts before ty l = TypesReadBehind e c least l ts (before ++ ty ∷ [])

abbrev BehindAs : Environment → Context → ℕ → Left → List TypeData → List SoftType → Result (List SoftType) Refusal → Left → Type 0
BehindAs e c least left [] before o a = IsValue (Ok before) left o a
BehindAs e c least left (t ∷ ts) before o a = ThenRead (TypeRead e c least left t) as_it_is (BehindNext e c least ts before) o a

behind_as : (e : Environment) (c : Context) (least : ℕ) (left : Left) (ts : List TypeData) (before : List SoftType) (o : Result (List SoftType) Refusal) (a : Left) →
    TypesReadBehind e c least left ts before o a → BehindAs e c least left ts before o a
behind_as e c least left ts before o a (pl.no_more _ _) = (refl, refl)
behind_as e c least left ts before o a (pl.one_refused _ _ t rest _ r h) = (Err r, a, h, refl)
behind_as e c least left ts before o a (pl.one_read _ between _ t rest _ ty _ h k) = (Ok ty, between, h, k)

one_behind : (e : Environment) (c : Context) (least : ℕ) (ts : List TypeData) (left : Left) (before : List SoftType) → IsDetermined (TypesReadBehind e c least left ts before)
one_behind e c least [] left before =
    determined_by (TypesReadBehind e c least left [] before) (BehindAs e c least left [] before) (behind_as e c least left [] before) (determined_value (Ok before) left)
one_behind e c least (t ∷ ts) left before =
    determined_by (TypesReadBehind e c least left (t ∷ ts) before) (BehindAs e c least left (t ∷ ts) before) (behind_as e c least left (t ∷ ts) before)
    (determined_then (TypeRead e c least left t) as_it_is (BehindNext e c least ts before) (one_type_read e c least left t)
    (λ (ty : SoftType) (l : Left). one_behind e c least ts l (before ++ ty ∷ [])))

pub one_places_read : (e : Environment) (c : Context) (least : ℕ) (left : Left) (ts : Option (Separated TypeData)) → IsDetermined (PlacesRead e c least left ts)
one_places_read e c least left ts = one_behind e c least (types_in ts) left []
