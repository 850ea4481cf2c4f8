-- What a type says of a term, as statements.
use Rattle.std.specs.Prelude.{Bool, true, false, List, map}
use Rattle.mz_logic.specs.Term.{Term, Bound}
use Rattle.mz_logic.specs.declared.literal.Literal.{Literal}
use Rattle.mz_logic.specs.declared.literal.Literal.TheVariants as literal
use Rattle.mz_core.specs.Statement.{Statement, Eq, Atom, Not}
use Rattle.mz_core.specs.declared.soft_type.SoftType.{SoftType}
use Rattle.mz_core.specs.Guard.{guard_literals}
use Rattle.mz_core.specs.TypeShift.{shift_type}
use Rattle.mz_core.specs.Parts.{conjunction}

-- the statement, or its negation where it is not positive
abbrev pub signed : Bool → Statement → Statement
signed true s = s
signed false s = Not s

abbrev pub literal_statement : Literal → Statement
literal_statement (literal.Atom positive s ts) = signed positive (Atom s ts)
literal_statement (literal.Eq positive t u) = signed positive (Eq t u)

-- T(t): the conjunction of the guard's literals, or truth
abbrev pub is_of_type : SoftType → Term → Statement
is_of_type ty t = conjunction (map literal_statement (guard_literals ty t))

-- T(y), where T stands outside the quantifier over y
abbrev pub is_of_type_inside : SoftType → Statement
is_of_type_inside ty = is_of_type (shift_type 0 1 ty) (Bound 0)
