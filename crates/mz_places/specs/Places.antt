-- The types of places: those of a private functor or predicate, or of a letter.
use Rattle.std.specs.Prelude.{ℕ, List, [], ◌∷◌, ◌++◌, Option, Some, None, Result, Ok, Err}
use Rattle.mz_core.specs.declared.outcome.Left.{Left}
use Rattle.mz_core.specs.declared.soft_type.SoftType.{SoftType}
use Rattle.mz_context.specs.declared.context.Context.{Context}
use Rattle.mz_environment.specs.declared.environment.Environment.{Environment}
use Rattle.mz_names.specs.declared.refusal.Refusal.{Refusal}
use Rattle.mz_tree.specs.Trees.{TypeData}
use Rattle.mz_tree.specs.declared.lists.Separated.{Separated}
use Rattle.mz_cited.specs.Cited.{members}
use Rattle.mz_resolve.specs.Calls.{TypeRead}

-- types that are read one after another, all in the same context, behind those that were. After a refusal anything may be left.
pub data TypesReadBehind (e : Environment) (c : Context) (least : ℕ) : Left → List TypeData → List SoftType → Result (List SoftType) Refusal → Left → Type 0 where
  no_more : (left : Left) (before : List SoftType) → TypesReadBehind e c least left [] before (Ok before) left
  one_refused : (left after : Left) (t : TypeData) (ts : List TypeData) (before : List SoftType) (r : Refusal) →
      TypeRead e c least left t (Err r) after → TypesReadBehind e c least left (t ∷ ts) before (Err r) after
  one_read : (left between after : Left) (t : TypeData) (ts : List TypeData) (before : List SoftType) (ty : SoftType) (o : Result (List SoftType) Refusal) →
      TypeRead e c least left t (Ok ty) between → TypesReadBehind e c least between ts (before ++ ty ∷ []) o after → TypesReadBehind e c least left (t ∷ ts) before o after

-- the types that are written between the parentheses or brackets, where there are any
abbrev pub types_in : Option (Separated TypeData) → List TypeData
types_in None = []
types_in (Some ts) = members ts

abbrev pub PlacesRead : Environment → Context → ℕ → Left → Option (Separated TypeData) → Result (List SoftType) Refusal → Left → Type 0
PlacesRead e c least left ts = TypesReadBehind e c least left (types_in ts) []
