-- Reservations: identifiers that are reserved for types.
use Rattle.std.specs.Prelude.{ℕ, List, [], ◌∷◌, ◌++◌, map, Result, Ok, Err}
use Rattle.mz_core.specs.declared.outcome.Left.{Left}
use Rattle.mz_core.specs.declared.soft_type.SoftType.{SoftType}
use Rattle.mz_context.specs.declared.context.Context.{Context}
use Rattle.mz_context.specs.declared.reserved.ReservedVariable.{ReservedVariable}
use Rattle.mz_environment.specs.declared.environment.Environment.{Environment}
use Rattle.mz_names.specs.declared.refusal.Refusal.{Refusal}
use Rattle.mz_resolve.specs.Calls.{TypeRead}
use Rattle.mz_cited.specs.Cited.{members}
use Rattle.mz_tree.specs.declared.chain.Next.{Next}
use Rattle.mz_tree.specs.declared.word.Comma.{Comma}
use Rattle.mz_tree_heading.specs.declared.patterns.IdentifierTree.{IdentifierTree}
use Rattle.mz_tree_part.specs.declared.reserve.SegmentTree.{SegmentTree}

-- the identifier, reserved for the type
abbrev pub reserved_for : SoftType → IdentifierTree → ReservedVariable
reserved_for ty w = record { name = w.name.spelling; ty = ty }

-- so is one behind a comma
abbrev pub reserved_behind : SoftType → Next Comma IdentifierTree → ReservedVariable
reserved_behind ty n = reserved_for ty n.tree

-- the context with identifiers reserved for the type, the latest one last
abbrev pub with_reserved : Context → SoftType → List IdentifierTree → Context
with_reserved c ty ws = record c { reserved = c.reserved ++ map (reserved_for ty) ws }

-- Segments, one after another: the type of each is read once, where it is written, and then its identifiers are reserved. A type
-- may have constants of the article's own level. After a refusal anything may be left.
pub data Reserves (e : Environment) : Context → Left → List SegmentTree → Result Context Refusal → Left → Type 0 where
  no_more : (c : Context) (left : Left) → Reserves e c left [] (Ok c) left
  type_refused : (c : Context) (left after : Left) (s : SegmentTree) (ss : List SegmentTree) (r : Refusal) → TypeRead e c 0 left s.ty (Err r) after → Reserves e c left (s ∷ ss) (Err r) after
  reserved : (c : Context) (left between after : Left) (s : SegmentTree) (ss : List SegmentTree) (ty : SoftType) (o : Result Context Refusal) →
      TypeRead e c 0 left s.ty (Ok ty) between → Reserves e (with_reserved c ty (members s.identifiers)) between ss o after → Reserves e c left (s ∷ ss) o after

-- the context that was come to, or the refusal
abbrev pub come_to : {X : Type 0} → Result X Refusal → Context → Result Context Refusal
come_to (Ok x) c = Ok c
come_to (Err r) c = Err r
