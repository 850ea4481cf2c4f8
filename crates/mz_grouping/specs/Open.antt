-- What stands while a run is grouped from its front: the symbols that aren't applied yet.
use Rattle.std.specs.Prelude.{◌≡◌, ◌≤◌, ◌<◌, ℕ, zero, suc, Bool, true, false, nat_lt, List, [], ◌∷◌, ◌++◌, if◌then◌else◌, length, take, drop, Option, Some, None, slice_get}
use Rattle.mz_grouping.specs.Grouping.{Head, replaces, head_of, Grouped, neighbours_behind}
use Rattle.mz_grouping.specs.declared.opened.Opened.{Opened}
use Rattle.mz_grouping.specs.declared.grouping.Part.{Part}
use Rattle.mz_grouping.specs.declared.grouping.Part.TheVariants.{Operand, Symbol}
use Rattle.mz_grouping.specs.declared.grouping.Step.{Step}

-- an open symbol as a head
abbrev pub head_at : Opened → Head
head_at o = record { place = o.place; rank = o.rank; after = o.after }

abbrev pub head : ℕ → ℕ → Bool → Head
head place rank after = record { place = place; rank = rank; after = after }

-- the symbol is the head in place of the one opened last
abbrev pub replaces_top : Head → List Opened → Bool
replaces_top x [] = false
replaces_top x (o ∷ os) = replaces x (head_at o)

-- the symbol opened last and the others; the last one where a symbol replaces it, and what is left then
abbrev pub top_of : List Opened → Option Opened
top_of [] = None
top_of (o ∷ os) = Some o

abbrev pub rest_of : List Opened → List Opened
rest_of [] = []
rest_of (o ∷ os) = os

abbrev pub popped : Head → List Opened → Option Opened
popped x os = if replaces_top x os then top_of os else None

abbrev pub left_by : Head → List Opened → List Opened
left_by x os = if replaces_top x os then rest_of os else os

-- where the run behind the symbol opened last begins
abbrev pub begin_of : List Opened → ℕ
begin_of [] = zero
begin_of (o ∷ os) = suc o.place

-- the parts from one place on and before another
abbrev pub between : ℕ → ℕ → List Part → List Part
between low high parts = drop low (take high parts)

-- an open symbol: the head of its run as far as the place k, with the steps of what stands before it there. `out` are
-- these steps behind those before the other open symbols
pub record IsTop (parts : List Part) (k : ℕ) (o : Opened) (os : List Opened) (out inner ls : List Step) : Type 0 where
  pub low : begin_of os ≤ o.place
  pub high : o.place < k
  pub there : slice_get parts o.place ≡ Some (Symbol o.rank o.after)
  pub is_head : head_of (begin_of os) (between (begin_of os) k parts) ≡ Some (head_at o)
  pub before : Grouped (begin_of os) (between (begin_of os) o.place parts) ls
  pub left : o.left ≡ nat_lt (begin_of os) o.place
  pub stays : replaces_top (head_at o) os ≡ false
  pub joined : out ≡ inner ++ ls

-- open symbols, the one opened last in front
abbrev pub AreOpen : List Part → ℕ → List Opened → List Step → Type 0
AreOpen parts k [] out = out ≡ []
AreOpen parts k (o ∷ os) out = (inner : List Step) × (ls : List Step) × AreOpen parts k os inner × IsTop parts k o os out inner ls

-- the steps so far: those before the open symbols, and those of the run behind the last one, as far as the place k
pub record Stands (parts : List Part) (k : ℕ) (os : List Opened) (steps : List Step) (out ts : List Step) : Type 0 where
  pub front : AreOpen parts k os out
  pub tail : Grouped (begin_of os) (between (begin_of os) k parts) ts
  pub joined : steps ≡ out ++ ts
  pub low : begin_of os ≤ k
  pub high : k ≤ length parts

pub data StandsSo (parts : List Part) (k : ℕ) (os : List Opened) (steps : List Step) : Type 0 where
  stands_so : (out ts : List Step) → Stands parts k os steps out ts → StandsSo parts k os steps

-- the head of the run behind the symbol opened last, as far as the place k
abbrev pub tail_head : List Part → ℕ → List Opened → Option Head
tail_head parts k os = head_of (begin_of os) (between (begin_of os) k parts)

-- a symbol is the head in place of what was there, if there was one
pub data Beats (x : Head) : Option Head → Type 0 where
  nothing_there : Beats x None
  beats : (y : Head) → replaces x y ≡ true → Beats x (Some y)

-- the run behind the symbol opened last is empty, or an operand
pub data Ends : List Part → Bool → Type 0 where
  no_part : Ends [] false
  one_operand : Ends (Operand ∷ []) true

pub record IsReady (parts : List Part) (k : ℕ) (os : List Opened) (steps : List Step) (before : Bool) : Type 0 where
  pub stands : StandsSo parts k os steps
  pub ends : Ends (between (begin_of os) k parts) before
  pub apart : neighbours_behind before (drop k parts) ≡ false

pub data ReadySo (parts : List Part) (k : ℕ) (os : List Opened) (steps : List Step) : Type 0 where
  ready_so : (before : Bool) → IsReady parts k os steps before → ReadySo parts k os steps

-- the steps so far, where a symbol at the place k is the head in place of what stands behind the symbol opened last
pub record Closes (parts : List Part) (k rank : ℕ) (after : Bool) (os : List Opened) (steps : List Step) : Type 0 where
  pub stands : StandsSo parts k os steps
  pub beats : Beats (head k rank after) (tail_head parts k os)
