-- What is known of the classes of terms by the classes of their variables.
use Rattle.std.specs.Prelude.{ℕ, ◌-◌, Option, None, Some, List, [], ◌∷◌, ◌++◌, nat_lt, if◌then◌else◌}
use Rattle.mz_logic.specs.Term.{Term, Terms, Bound, Const, App, none, more}
use Rattle.mz_match.specs.Slots.{Assignment, slot_at}
use Rattle.mz_match.specs.Table.{value_of}
use Rattle.mz_match.specs.declared.row.Head.{Head}
use Rattle.mz_match.specs.declared.row.Head.TheVariants.{Constant, Functor}
use Rattle.mz_match.specs.declared.table.Table.{Table}
use Rattle.mz_match.specs.declared.value.Value.{Value}
use Rattle.mz_match.specs.declared.value.Value.TheVariants.{Unknown, Nothing, Class}

abbrev pub slot_value : Option ℕ → Value
slot_value None = Unknown
slot_value (Some v) = Class v

abbrev pub variable_value : ℕ → ℕ → Assignment → Value
variable_value depth i e = if nat_lt i depth then Nothing else slot_value (slot_at e (i - depth))

-- what hangs on a class, where it is known
abbrev pub by_class : Value → (ℕ → Value) → Value
by_class Unknown f = Unknown
by_class Nothing f = Nothing
by_class (Class v) f = f v

-- from the arguments up; `vs` are the classes of the arguments before
abbrev mutual
  pub evaluate : Table → ℕ → Assignment → Term → Value
  evaluate table depth e (Bound i) = variable_value depth i e
  evaluate table depth e (Const n) = value_of table (Constant n) []
  evaluate table depth e (App s ts) = evaluate_at table depth e (Functor s) [] ts

  pub evaluate_at : Table → ℕ → Assignment → Head → List ℕ → Terms → Value
  evaluate_at table depth e h vs none = value_of table h vs
  evaluate_at table depth e h vs (more t ts) = by_class (evaluate table depth e t) (λ v. evaluate_at table depth e h (vs ++ v ∷ []) ts)
