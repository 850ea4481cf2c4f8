-- Classes for the variables of all goals of a search, each at a place of its own.
use Rattle.std.specs.Prelude.{◌≡◌, ◌↔◌, ℕ, Bool, true, false, Option, None, Some, length}
use Rattle.mz_match.specs.Slots.{Assignment, slot_at}

-- the places that have a class have that of `a`
unfoldable pub Agrees : Assignment → (ℕ → ℕ) → Type 0
Agrees e a = (i v : ℕ) → slot_at e i ≡ Some v → a i ≡ v

-- where b is true, d has beside the classes of e those that P asks for; where it is false, no classes that agree with
-- e do what P asks for
pub record Extends (P : (ℕ → ℕ) → Type 0) (e d : Assignment) (b : Bool) : Type 0 where
  pub count : length d ≡ length e
  pub there : b ≡ true → (a : ℕ → ℕ) → Agrees d a ↔ (Agrees e a × P a)
  pub nowhere : b ≡ false → (a : ℕ → ℕ) → Agrees e a → P a → ⊥

-- the slot has no class, or this one
abbrev pub SlotFits : Option ℕ → ℕ → Type 0
SlotFits None n = Unit {0}
SlotFits (Some v) n = n ≡ v
