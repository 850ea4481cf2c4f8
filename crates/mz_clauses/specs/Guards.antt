-- Guards of loci and of further variables, as literals.
use Rattle.std.specs.Prelude.{ℕ, ◌+◌, List, [], ◌∷◌, ◌++◌, length, map, Option, Some, None}
use Rattle.mz_logic.specs.Term.{Term, Bound}
use Rattle.mz_logic.specs.declared.literal.Literal.{Literal}
use Rattle.mz_core.specs.TypeShift.{shift_type, shift_adjective}
use Rattle.mz_core.specs.Guard.{guard_literals, adjective_literal}
use Rattle.mz_core.specs.declared.adjective.Adjective.{Adjective}
use Rattle.mz_core.specs.declared.soft_type.SoftType.{SoftType}

-- the guards of the loci in their order, under `by` further variables; a type stands under the loci before it
abbrev pub loci_guards : ℕ → List SoftType → List Literal
loci_guards by [] = []
loci_guards by (ty ∷ tys) =
    guard_literals (shift_type 0 (length tys + 1 + by) ty) (Bound (length tys + by)) ++ loci_guards by tys

-- T(y), where T stands under the loci alone, and y is the one further variable
abbrev pub guard_at_object : SoftType → List Literal
guard_at_object ty = guard_literals (shift_type 0 1 ty) (Bound 0)

-- T(t), where there is a type
abbrev pub guard_if_any : Option SoftType → Term → List Literal
guard_if_any None t = []
guard_if_any (Some ty) t = guard_literals ty t

-- A(t), for each adjective
abbrev pub adjective_literals : List Adjective → Term → List Literal
adjective_literals xs t = map (adjective_literal t) xs

-- A(y), where the adjectives stand under the loci alone, and y is the one further variable
abbrev pub adjectives_at_object : List Adjective → List Literal
adjectives_at_object xs = adjective_literals (map (shift_adjective 0 1) xs) (Bound 0)
