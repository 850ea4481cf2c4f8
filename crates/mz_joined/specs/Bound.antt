-- Statements under quantifiers, and what a type says of a term, within the limits on nodes and depth. The variables are the
-- constants from n on, and `first` is the place of the first token.
use Rattle.std.specs.Prelude.{ℕ, if◌then◌else◌, List, [], ◌∷◌, ◌++◌, Option, Some, None, Result, Ok}
use Rattle.mz_base.specs.declared.place.Place.{Place}
use Rattle.mz_logic.specs.Term.{Term}
use Rattle.mz_core.specs.Hidden.{is_of_any_object}
use Rattle.mz_core.specs.Statement.{Statement, Truth, Atom, And}
use Rattle.mz_core.specs.TypeStatements.{is_of_type}
use Rattle.mz_core.specs.declared.radix.Radix.{Radix}
use Rattle.mz_core.specs.declared.soft_type.SoftType.{SoftType}
use Rattle.mz_names.specs.Closing.{for_all, there_are}
use Rattle.mz_names.specs.declared.refusal.Refusal.{Refusal}
use Rattle.mz_names.specs.declared.variable.Variable.{Variable}
use Rattle.mz_sizes.specs.Sizes.{statement_keeps}
use Rattle.mz_applied.specs.Within.{within}

-- for all objects of the variables' types s
abbrev pub for_all_within : Place → ℕ → List Variable → Statement → Result Statement Refusal
for_all_within first n vs s = within statement_keeps first (for_all n vs s)

-- for some of them s
abbrev pub there_are_within : Place → ℕ → List Variable → Statement → Result Statement Refusal
there_are_within first n vs s = within statement_keeps first (there_are n vs s)

-- for all of them s, where there is a variable; else s, untested
abbrev pub quantified : Place → ℕ → List Variable → Statement → Result Statement Refusal
quantified first n [] s = Ok s
quantified first n (v ∷ vs) s = for_all_within first n (v ∷ vs) s

-- the term is of the type: the conjunction of the literals of the type's guard, or truth
abbrev pub of_type_within : Place → SoftType → Term → Result Statement Refusal
of_type_within first ty t = within statement_keeps first (is_of_type ty t)

-- what a radix says of a term, where it says something
abbrev pub radix_said : Radix → Term → Option Statement
radix_said r t = if is_of_any_object r.sym then None else Some (Atom r.sym (r.args ++ t ∷ []))

-- what was said before, and this
abbrev pub and_said : Option Statement → Statement → Statement
and_said None s = s
and_said (Some r) s = And r s

-- what was said, or truth
abbrev pub stated : Option Statement → Statement
stated None = Truth
stated (Some s) = s
