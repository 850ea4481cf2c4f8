-- What a type says of a term.
use Rattle.std.specs.Prelude.{true, if◌then◌else◌, List, [], ◌∷◌, ◌++◌, map}
use Rattle.mz_logic.specs.Term.{Term}
use Rattle.mz_logic.specs.Formula.{Formula}
use Rattle.mz_logic.specs.Literal.{literal_formula}
use Rattle.mz_logic.specs.declared.literal.Literal.{Literal}
use Rattle.mz_logic.specs.declared.literal.Literal.TheVariants.{Atom}
use Rattle.mz_core.specs.Hidden.{is_of_any_object}
use Rattle.mz_core.specs.declared.radix.Radix.{Radix}
use Rattle.mz_core.specs.declared.adjective.Adjective.{Adjective}
use Rattle.mz_core.specs.declared.soft_type.SoftType.{SoftType}

-- the atom of a radix has the term as its last argument
abbrev pub radix_literals : Radix → Term → List Literal
radix_literals r t = if is_of_any_object r.sym then [] else Atom true r.sym (r.args ++ t ∷ []) ∷ []

-- so has that of an adjective; it is negative for `non`
abbrev pub adjective_literal : Term → Adjective → Literal
adjective_literal t a = Atom a.positive a.sym (a.args ++ t ∷ [])

-- the guard of a type at a term: the literal of its radix, then those of its adjectives
abbrev pub guard_literals : SoftType → Term → List Literal
guard_literals ty t = radix_literals ty.radix t ++ map (adjective_literal t) ty.adjectives

-- the same as formulas
abbrev pub guard : SoftType → Term → List Formula
guard ty t = map literal_formula (guard_literals ty t)
