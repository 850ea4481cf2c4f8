-- Clauses of registrations.
use Rattle.std.specs.Prelude.{ℕ, ◌+◌, List, [], ◌∷◌, ◌++◌, length}
use Rattle.mz_logic.specs.Term.{Bound}
use Rattle.mz_logic.specs.declared.literal.Literal.{Literal}
use Rattle.mz_core.specs.TypeShift.{shift_radix}
use Rattle.mz_core.specs.Guard.{radix_literals}
use Rattle.mz_core.specs.declared.registration.ConditionalRegistration.{ConditionalRegistration}
use Rattle.mz_core.specs.declared.registration.FunctorialRegistration.{FunctorialRegistration}
use Rattle.mz_core.specs.declared.registration.EquationRegistration.{EquationRegistration}
use Rattle.mz_ground.specs.declared.trigger.Trigger.TheVariants.{Term}
use Rattle.mz_clauses.specs.declared.clause_groups.ClauseGroup.{ClauseGroup}
use Rattle.mz_clauses.specs.Guards.{loci_guards, guard_at_object, guard_if_any, adjective_literals, adjectives_at_object}
use Rattle.mz_clauses.specs.Groups.{one_group, group_if_any, first_trigger}
use Rattle.mz_clauses.specs.DefinitionClauses.{equation_groups}

-- where G and T(t) hold, A(t)
abbrev pub functorial_groups : FunctorialRegistration → List ClauseGroup
functorial_groups r =
    one_group (length r.loci) (Term r.term) (loci_guards 0 r.loci ++ guard_if_any r.ty r.term) (adjective_literals r.adjectives r.term)

-- the atom of the radix, if it has one, and those of the adjectives, the left ones first
abbrev pub conditional_atoms : ConditionalRegistration → List Literal
conditional_atoms r =
    radix_literals (shift_radix 0 1 r.ty.radix) (Bound 0) ++ adjectives_at_object r.from ++ adjectives_at_object r.to

-- where G, T(y) and A(y) hold, B(y); the trigger is the first of those atoms that has all variables
abbrev pub conditional_groups : ConditionalRegistration → List ClauseGroup
conditional_groups r =
    group_if_any (length r.loci + 1) (first_trigger (length r.loci + 1) (conditional_atoms r)) (loci_guards 1 r.loci ++ guard_at_object r.ty ++ adjectives_at_object r.from) (adjectives_at_object r.to)

-- where G holds, t = u
abbrev pub registered_equation_groups : EquationRegistration → List ClauseGroup
registered_equation_groups r = equation_groups r.loci r.left r.right
