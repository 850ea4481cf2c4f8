-- Fresh constants.
use Rattle.std.specs.Prelude.{◌≡◌, ◌++◌, ℕ, List, [], Option, None, take}
use Rattle.mz_core.specs.declared.soft_type.SoftType.{SoftType}
use Rattle.mz_context.specs.declared.constants.Constant.{Constant}
use Rattle.mz_context.specs.declared.context.Context.{Context}
use Rattle.mz_context.specs.Changes.{with_constant}

-- a constant of the type, without a name and without an equal term
abbrev pub fresh : SoftType → Constant
fresh ty = record { name = []; ty = ty; equal = None }

abbrev pub with_fresh : Context → SoftType → Context
with_fresh c ty = with_constant c (fresh ty)

-- so many of the constants alone
abbrev pub keeping : ℕ → Context → Context
keeping n c = record c { constants = take n c.constants }

-- the second context has further constants, and is else as the first
pub record Grown (c d : Context) : Type 0 where
  pub more : List (Option Constant)
  pub is : d ≡ record c { constants = c.constants ++ more }
