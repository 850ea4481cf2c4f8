-- Clauses of definitions and redefinitions.
use Rattle.std.specs.Prelude.{ℕ, ◌+◌, true, if◌then◌else◌, List, [], ◌∷◌, ◌++◌, length, Option, Some, None}
use Rattle.mz_logic.specs.Term as term
use Rattle.mz_logic.specs.Term.{Bound}
use Rattle.mz_logic.specs.declared.literal.Literal.TheVariants.{Eq}
use Rattle.mz_core.specs.Hidden.{is_of_any_object}
use Rattle.mz_core.specs.TypeShift.{shift_radix}
use Rattle.mz_core.specs.Guard.{guard_literals}
use Rattle.mz_core.specs.declared.radix.Radix.{Radix}
use Rattle.mz_core.specs.declared.soft_type.SoftType.{SoftType}
use Rattle.mz_core.specs.declared.term_definiens.TermDefiniens.{TermDefiniens}
use Rattle.mz_core.specs.declared.term_definiens.TermDefiniens.TheVariants.{Plain, Cases, CasesOtherwise}
use Rattle.mz_ground.specs.declared.trigger.Trigger.{Trigger}
use Rattle.mz_ground.specs.declared.trigger.Trigger.TheVariants.{Term, Atom}
use Rattle.mz_clauses.specs.declared.clause_groups.ClauseGroup.{ClauseGroup}
use Rattle.mz_clauses.specs.Guards.{loci_guards, guard_at_object}
use Rattle.mz_clauses.specs.Groups.{one_group, group_if_any}

-- where G holds, T(F)
abbrev pub functor_type_groups : List SoftType → term.Term → SoftType → List ClauseGroup
functor_type_groups loci t ty = one_group (length loci) (Term t) (loci_guards 0 loci) (guard_literals ty t)

-- the same of a new type, if there is one
abbrev pub new_functor_type_groups : List SoftType → term.Term → Option SoftType → List ClauseGroup
new_functor_type_groups loci t None = []
new_functor_type_groups loci t (Some ty) = functor_type_groups loci t ty

-- the atom of a radix at an object; `object` and `set` have none
abbrev pub radix_trigger : Radix → term.Term → Option Trigger
radix_trigger r t = if is_of_any_object r.sym then None else Some (Atom r.sym (r.args ++ t ∷ []))

-- where G and M(y) hold, T(y); the atom is that of the radix
abbrev pub mode_parent_groups : List SoftType → SoftType → SoftType → List ClauseGroup
mode_parent_groups loci mode ty =
    group_if_any (length loci + 1) (radix_trigger (shift_radix 0 1 mode.radix) (Bound 0)) (loci_guards 1 loci ++ guard_at_object mode) (guard_at_object ty)

-- the same of a new type, if there is one
abbrev pub new_mode_parent_groups : List SoftType → SoftType → Option SoftType → List ClauseGroup
new_mode_parent_groups loci mode None = []
new_mode_parent_groups loci mode (Some ty) = mode_parent_groups loci mode ty

-- where G holds, t = u
abbrev pub equation_groups : List SoftType → term.Term → term.Term → List ClauseGroup
equation_groups loci t u = one_group (length loci) (Term t) (loci_guards 0 loci) (Eq true t u ∷ [])

-- where G holds, F = t; of a definition without cases
abbrev pub equality_groups : List SoftType → term.Term → TermDefiniens → List ClauseGroup
equality_groups loci t (Plain u) = equation_groups loci t u
equality_groups loci t (Cases cases) = []
equality_groups loci t (CasesOtherwise cases u) = []
