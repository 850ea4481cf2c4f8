-- Formulas under a guard, and typed quantifiers.
use Rattle.std.specs.Prelude.{List, [], ◌∷◌}
use Rattle.mz_logic.specs.Term.{Bound}
use Rattle.mz_logic.specs.Formula.{Formula, All}
use Rattle.mz_logic.specs.Connectives.{joined_to, implies}
use Rattle.mz_core.specs.declared.soft_type.SoftType.{SoftType}
use Rattle.mz_core.specs.Guard.{guard}
use Rattle.mz_core.specs.TypeShift.{shift_type}

-- f under the antecedent that joins a guard, where that has literals
abbrev pub where_guard : List Formula → Formula → Formula
where_guard [] f = f
where_guard (g ∷ gs) f = implies (joined_to g gs) f

-- all objects with a guard
abbrev pub for_guard : List Formula → Formula → Formula
for_guard gs f = All (where_guard gs f)

-- the guard of a type, which stands outside a quantifier, at the quantifier's object
abbrev pub guard_inside : SoftType → List Formula
guard_inside ty = guard (shift_type 0 1 ty) (Bound 0)

-- for x being T holds f
abbrev pub for_type : SoftType → Formula → Formula
for_type ty f = for_guard (guard_inside ty) f
