-- The constants of a context by their numbers.
use Rattle.std.specs.Prelude.{ℕ, zero, suc, List, Option, Some, None, length, slice_get}
use Rattle.mz_context.specs.declared.constants.Constant.{Constant}
use Rattle.mz_context.specs.declared.context.Context.{Context}

-- the constant of a place, where there is one in force
abbrev pub in_force : Option (Option Constant) → Option Constant
in_force None = None
in_force (Some o) = o

-- the constant with the number; 0 is no constant's
abbrev pub numbered : List (Option Constant) → ℕ → Option Constant
numbered ks zero = None
numbered ks (suc n) = in_force (slice_get ks n)

abbrev pub constant_at : Context → ℕ → Option Constant
constant_at c n = numbered c.constants n

-- how many numbers there are up to the last constant's, 0 among them
abbrev pub numbers : List (Option Constant) → ℕ
numbers ks = suc (length ks)

-- the number of the next constant
abbrev pub next : Context → ℕ
next c = numbers c.constants
