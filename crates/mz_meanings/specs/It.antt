-- What `it` stands for: a constant of a type, the next one, which has no name.
use Rattle.std.specs.Prelude.{ℕ, List, [], ◌∷◌, ◌++◌, take, Option, Some, None}
use Rattle.mz_logic.specs.Term.{Term, Const}
use Rattle.mz_core.specs.declared.soft_type.SoftType.{SoftType}
use Rattle.mz_context.specs.Context.{next}
use Rattle.mz_context.specs.declared.constants.Constant.{Constant}
use Rattle.mz_context.specs.declared.context.Context.{Context}

abbrev pub it_constant : SoftType → Constant
it_constant ty = record { name = []; ty = ty; equal = None }

-- the context in which it is known
abbrev pub with_it : Context → SoftType → Context
with_it c ty = record c { constants = c.constants ++ Some (it_constant ty) ∷ []; it = Some (Const (next c)) }

-- the context behind a formula in which it was known
abbrev pub without_it : Context → ℕ → Option Term → Context
without_it c places before = record c { constants = take places c.constants; it = before }
