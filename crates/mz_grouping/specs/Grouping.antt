-- Runs of operands and functor symbols, grouped by the ranks of the symbols.
use Rattle.std.specs.Prelude.{◌≡◌, ℕ, suc, ◌+◌, Bool, true, false, ◌&&◌, ◌||◌, nat_eq, nat_lt, if◌then◌else◌, List, [], ◌∷◌, ◌++◌, length, Option, Some, None}
use Rattle.mz_grouping.specs.declared.grouping.Part.{Part}
use Rattle.mz_grouping.specs.declared.grouping.Part.TheVariants.{Operand, Symbol}
use Rattle.mz_grouping.specs.declared.grouping.Step.{Step}
use Rattle.mz_grouping.specs.declared.grouping.Step.TheVariants.{Take, Apply}

-- a symbol of a run: its place in it, its rank, and whether it stands directly after an operand
pub record Head : Type 0 where
  pub place : ℕ
  pub rank : ℕ
  pub after : Bool

-- a further symbol is the head in place of the one so far where its rank is less, or where it has the same one and stands
-- directly after an operand
abbrev pub replaces : Head → Head → Bool
replaces x y = nat_lt x.rank y.rank || (nat_eq x.rank y.rank && x.after)

abbrev pub head_of_two : Option Head → Head → Option Head
head_of_two None x = Some x
head_of_two (Some y) x = if replaces x y then Some x else Some y

-- the head so far, with a further part at the place
abbrev pub with_part : Option Head → ℕ → Part → Option Head
with_part best place Operand = best
with_part best place (Symbol rank after) = head_of_two best (record { place = place; rank = rank; after = after })

-- the head, with the parts from the place on
abbrev pub head_from : Option Head → ℕ → List Part → Option Head
head_from best place [] = best
head_from best place (p ∷ ps) = head_from (with_part best place p) (suc place) ps

-- the symbol of least rank; among several, the last that stands directly after an operand, and where none does, the
-- first. Places are counted from the one that the run's first part has
abbrev pub head_of : ℕ → List Part → Option Head
head_of from run = head_from None from run

-- the steps by which a run is read, in order: an operand is taken; a symbol is applied to what stands before it and
-- behind it in its run, where something does. The run's first part has the place `from`
pub data Grouped : ℕ → List Part → List Step → Type 0 where
  nothing : (from : ℕ) → Grouped from [] []
  operand : (from : ℕ) → Grouped from (Operand ∷ []) (Take from ∷ [])
  headed : (from : ℕ) (before behind : List Part) (rank : ℕ) (after : Bool) (ls rs : List Step) →
      head_of from (before ++ Symbol rank after ∷ behind) ≡ Some (record { place = from + length before; rank = rank; after = after }) →
      Grouped from before ls → Grouped (from + suc (length before)) behind rs →
      Grouped from (before ++ Symbol rank after ∷ behind) (ls ++ rs ++ Apply (from + length before) (nat_lt 0 (length before)) (nat_lt 0 (length behind)) ∷ [])

-- whether two operands are neighbours
abbrev pub is_operand : Part → Bool
is_operand Operand = true
is_operand (Symbol rank after) = false

abbrev pub neighbours_behind : Bool → List Part → Bool
neighbours_behind before [] = false
neighbours_behind before (p ∷ ps) = (before && is_operand p) || neighbours_behind (is_operand p) ps

abbrev pub has_neighbours : List Part → Bool
has_neighbours ps = neighbours_behind false ps
