-- Clauses of definitions, redefinitions and registrations.
use Rattle.std.proofs.Common.{◌≡◌, ℕ, ◌+◌, List, [], ◌∷◌, ◌++◌, map, length, refl, true}
use Rattle.std.specs.Prelude.{Option, Some, None}
use Rattle.std.specs.List.{list_all}
use Rattle.std.proofs.lemmas.Bool.{and_from}
use Rattle.mz_logic.specs.Term as term
use Rattle.mz_logic.specs.Term.{Bound}
use Rattle.mz_logic.specs.Substitution.{shift}
use Rattle.mz_logic.specs.declared.literal.Literal.TheVariants as literal
use Rattle.mz_core.specs.Hidden.{is_of_any_object}
use Rattle.mz_core.specs.TypeShift.{shift_radix}
use Rattle.mz_core.specs.Guard.{radix_literals, guard_literals}
use Rattle.mz_core.specs.Closed.{term_under, literal_under, adjective_under, type_under, loci_closed}
use Rattle.mz_core.specs.declared.radix.Radix.{Radix}
use Rattle.mz_core.specs.declared.soft_type.SoftType.{SoftType}
use Rattle.mz_core.specs.declared.term_definiens.TermDefiniens.{TermDefiniens}
use Rattle.mz_core.specs.declared.term_definiens.TermDefiniens.TheVariants.{Plain, Cases, CasesOtherwise}
use Rattle.mz_core.specs.declared.registration.ConditionalRegistration.{ConditionalRegistration}
use Rattle.mz_core.specs.declared.registration.FunctorialRegistration.{FunctorialRegistration}
use Rattle.mz_core.proofs.AllLemmas.{all-append}
use Rattle.mz_ground.specs.declared.trigger.Trigger.TheVariants.{Term}
use Rattle.mz_items.specs.Closed.{term_definiens_under, type_if_any_under, conditional_under, functorial_under}
use Rattle.mz_items.proofs.ItemLemmas.{three}
use Rattle.mz_clauses.specs.Guards.{loci_guards, guard_at_object, guard_if_any, adjective_literals, adjectives_at_object}
use Rattle.mz_clauses.specs.Groups.{first_trigger}
use Rattle.mz_clauses.specs.DefinitionClauses.{functor_type_groups, new_functor_type_groups, radix_trigger, mode_parent_groups, new_mode_parent_groups, equation_groups, equality_groups}
use Rattle.mz_clauses.specs.RegistrationClauses.{functorial_groups, conditional_atoms, conditional_groups}
use Rattle.mz_closed_laws.proofs.LiteralLemmas.{last_under, index_0, raised_under, guards_under, guards_alone_under, guard_under, object_guard_under, guard_if_any_under, adjectives_under, object_adjectives_under, object_radix_under, radix_args}
use Rattle.mz_closed_laws.proofs.GroupLemmas.{AtMost, group_closed, one_closed, if_any_closed, choice_at, first_at}

-- definitions
pub functor_type_closed : (loci : List SoftType) (t : term.Term) (ty : SoftType) → loci_closed loci ≡ true → term_under (length loci) t ≡ true → type_under (length loci) ty ≡ true → list_all group_closed (functor_type_groups loci t ty) ≡ true
functor_type_closed loci t ty c h k =
    one_closed (length loci) (Term t) (loci_guards 0 loci) (guard_literals ty t) h (guards_alone_under loci c) (guard_under (length loci) ty t k h)

pub new_type_closed : (loci : List SoftType) (t : term.Term) (ty : Option SoftType) → loci_closed loci ≡ true → term_under (length loci) t ≡ true → type_if_any_under (length loci) ty ≡ true → list_all group_closed (new_functor_type_groups loci t ty) ≡ true
new_type_closed loci t None c h k = refl
new_type_closed loci t (Some ty) c h k = functor_type_closed loci t ty c h k

radix_at : (n : ℕ) (r : Radix) → list_all (term_under n) r.args ≡ true → AtMost (n + 1) (radix_trigger (shift_radix 0 1 r) (Bound 0))
radix_at n r h =
    choice_at (n + 1) (is_of_any_object r.sym) r.sym (map (shift 0 1) r.args ++ Bound 0 ∷ []) (last_under (n + 1) (map (shift 0 1) r.args) (Bound 0) (raised_under n r.args h) (index_0 n))

pub mode_parent_closed : (loci : List SoftType) (mode ty : SoftType) → loci_closed loci ≡ true → type_under (length loci) mode ≡ true → type_under (length loci) ty ≡ true → list_all group_closed (mode_parent_groups loci mode ty) ≡ true
mode_parent_closed loci mode ty c h k =
    if_any_closed (length loci + 1) (radix_trigger (shift_radix 0 1 mode.radix) (Bound 0)) (loci_guards 1 loci ++ guard_at_object mode) (guard_at_object ty)
    (radix_at (length loci) mode.radix (radix_args (length loci) mode h))
    (all-append (literal_under (length loci + 1)) (loci_guards 1 loci) (guard_at_object mode) (guards_under 1 loci c) (object_guard_under (length loci) mode h))
    (object_guard_under (length loci) ty k)

pub new_parent_closed : (loci : List SoftType) (mode : SoftType) (ty : Option SoftType) → loci_closed loci ≡ true → type_under (length loci) mode ≡ true → type_if_any_under (length loci) ty ≡ true → list_all group_closed (new_mode_parent_groups loci mode ty) ≡ true
new_parent_closed loci mode None c h k = refl
new_parent_closed loci mode (Some ty) c h k = mode_parent_closed loci mode ty c h k

pub equation_closed : (loci : List SoftType) (t u : term.Term) → loci_closed loci ≡ true → term_under (length loci) t ≡ true → term_under (length loci) u ≡ true → list_all group_closed (equation_groups loci t u) ≡ true
equation_closed loci t u c h k =
    one_closed (length loci) (Term t) (loci_guards 0 loci) (literal.Eq true t u ∷ []) h (guards_alone_under loci c) (and_from _ _ (and_from _ _ h k) refl)

pub equality_closed : (loci : List SoftType) (t : term.Term) (d : TermDefiniens) → loci_closed loci ≡ true → term_under (length loci) t ≡ true → term_definiens_under (length loci) d ≡ true → list_all group_closed (equality_groups loci t d) ≡ true
equality_closed loci t (Plain u) c h k = equation_closed loci t u c h k
equality_closed loci t (Cases cases) c h k = refl
equality_closed loci t (CasesOtherwise cases u) c h k = refl

-- registrations
pub functorial_closed : (r : FunctorialRegistration) → loci_closed r.loci ≡ true → functorial_under (length r.loci) r ≡ true → list_all group_closed (functorial_groups r) ≡ true
functorial_closed r c h =
    let t : (term_under (length r.loci) r.term ≡ true) × (list_all (adjective_under (length r.loci)) r.adjectives ≡ true) × (type_if_any_under (length r.loci) r.ty ≡ true) = three (term_under (length r.loci) r.term) (list_all (adjective_under (length r.loci)) r.adjectives) (type_if_any_under (length r.loci) r.ty) h in
    one_closed (length r.loci) (Term r.term) (loci_guards 0 r.loci ++ guard_if_any r.ty r.term) (adjective_literals r.adjectives r.term) t.0
    (all-append (literal_under (length r.loci)) (loci_guards 0 r.loci) (guard_if_any r.ty r.term) (guards_alone_under r.loci c) (guard_if_any_under (length r.loci) r.ty r.term t.2 t.0))
    (adjectives_under (length r.loci) r.adjectives r.term t.1 t.0)

conditional_atoms_under : (n : ℕ) (r : ConditionalRegistration) → list_all (adjective_under n) r.from ≡ true → list_all (adjective_under n) r.to ≡ true → type_under n r.ty ≡ true → list_all (literal_under (n + 1)) (conditional_atoms r) ≡ true
conditional_atoms_under n r hf ht hy =
    all-append (literal_under (n + 1)) (radix_literals (shift_radix 0 1 r.ty.radix) (Bound 0) ++ adjectives_at_object r.from) (adjectives_at_object r.to)
    (all-append (literal_under (n + 1)) (radix_literals (shift_radix 0 1 r.ty.radix) (Bound 0)) (adjectives_at_object r.from) (object_radix_under n r.ty.radix (radix_args n r.ty hy)) (object_adjectives_under n r.from hf))
    (object_adjectives_under n r.to ht)

conditional_premises_under : (r : ConditionalRegistration) → loci_closed r.loci ≡ true → list_all (adjective_under (length r.loci)) r.from ≡ true → type_under (length r.loci) r.ty ≡ true → list_all (literal_under (length r.loci + 1)) (loci_guards 1 r.loci ++ guard_at_object r.ty ++ adjectives_at_object r.from) ≡ true
conditional_premises_under r c hf hy =
    all-append (literal_under (length r.loci + 1)) (loci_guards 1 r.loci ++ guard_at_object r.ty) (adjectives_at_object r.from)
    (all-append (literal_under (length r.loci + 1)) (loci_guards 1 r.loci) (guard_at_object r.ty) (guards_under 1 r.loci c) (object_guard_under (length r.loci) r.ty hy))
    (object_adjectives_under (length r.loci) r.from hf)

pub conditional_closed : (r : ConditionalRegistration) → loci_closed r.loci ≡ true → conditional_under (length r.loci) r ≡ true → list_all group_closed (conditional_groups r) ≡ true
conditional_closed r c h =
    let t : (list_all (adjective_under (length r.loci)) r.from ≡ true) × (list_all (adjective_under (length r.loci)) r.to ≡ true) × (type_under (length r.loci) r.ty ≡ true) = three (list_all (adjective_under (length r.loci)) r.from) (list_all (adjective_under (length r.loci)) r.to) (type_under (length r.loci) r.ty) h in
    if_any_closed (length r.loci + 1) (first_trigger (length r.loci + 1) (conditional_atoms r)) (loci_guards 1 r.loci ++ guard_at_object r.ty ++ adjectives_at_object r.from) (adjectives_at_object r.to)
    (first_at (length r.loci + 1) (conditional_atoms r) (conditional_atoms_under (length r.loci) r t.0 t.1 t.2))
    (conditional_premises_under r c t.0 t.2)
    (object_adjectives_under (length r.loci) r.to t.1)
