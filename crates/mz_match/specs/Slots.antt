-- Assignments of classes to variables.
use Rattle.std.specs.Prelude.{ℕ, zero, suc, Option, None, List, [], ◌∷◌}

-- a slot for each variable, innermost first: its class, where it has one
abbrev pub Assignment : Type 0
Assignment = List (Option ℕ)

-- the class at a place, where it has one
abbrev pub slot_at : Assignment → ℕ → Option ℕ
slot_at [] i = None
slot_at (x ∷ e) zero = x
slot_at (x ∷ e) (suc i) = slot_at e i
