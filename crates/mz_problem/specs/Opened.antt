-- A statement without its leading quantifiers: each is replaced by its body at a fresh constant of its type.
use Rattle.std.specs.Prelude.{◌≡◌, ℕ, suc, Bool, true, false, List, [], ◌∷◌, ◌++◌, Option}
use Rattle.mz_logic.specs.Term.{Const}
use Rattle.mz_logic.specs.declared.literal.Literal.{Literal}
use Rattle.mz_core.specs.Statement.{Statement, Truth, Eq, Atom, Not, And, For}
use Rattle.mz_core.specs.TypeSubstitution.{statement_at}
use Rattle.mz_core.specs.Guard.{guard_literals}
use Rattle.mz_core.specs.declared.soft_type.SoftType.{SoftType}
use Rattle.mz_context.specs.Context.{numbers}
use Rattle.mz_context.specs.declared.constants.Constant.{Constant}
use Rattle.mz_thesis.specs.Rows.{with_fresh}

abbrev pub is_universal : Statement → Bool
is_universal Truth = false
is_universal (Eq t u) = false
is_universal (Atom s ts) = false
is_universal (Not s) = false
is_universal (And s t) = false
is_universal (For ty s) = true

-- where the constants are in force, the statement opens to the types of fresh constants, which have the next numbers, and
-- to what is left of it
pub data Opens : List (Option Constant) → Statement → List SoftType → Statement → Type 0 where
  as_it_is : (ks : List (Option Constant)) (s : Statement) → is_universal s ≡ false → Opens ks s [] s
  at_constant : (ks : List (Option Constant)) (ty : SoftType) (tys : List SoftType) (s t : Statement) → Opens (with_fresh ks ty) (statement_at s (Const (numbers ks))) tys t → Opens ks (For ty s) (ty ∷ tys) t

-- the constants with the fresh ones
abbrev pub with_all_fresh : List (Option Constant) → List SoftType → List (Option Constant)
with_all_fresh ks [] = ks
with_all_fresh ks (ty ∷ tys) = with_all_fresh (with_fresh ks ty) tys

-- the guards of constants of these types, from the number n on
abbrev pub guards_from : ℕ → List SoftType → List Literal
guards_from n [] = []
guards_from n (ty ∷ tys) = guard_literals ty (Const n) ++ guards_from (suc n) tys
