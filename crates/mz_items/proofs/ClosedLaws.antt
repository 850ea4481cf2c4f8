-- The law of closed items.
use Rattle.std.proofs.Common.{◌≡◌, ◌<◌, ◌≤◌, ℕ, zero, suc, ◌+◌, ◌-◌, List, [], ◌∷◌, ◌++◌, map, length, reverse, refl, ap, sym, ◌∙◌, subst, arith, Bool, true, false}
use Rattle.std.specs.Prelude.{◌&&◌, nat_lt, flat_map, Option, Some, None}
use Rattle.std.specs.List.{list_all}
use Rattle.std.proofs.lemmas.Bool.{lt-ltb, and_parts, and_from}
use Rattle.std.proofs.lemmas.List.{length-reverse, length-append, length-map}
use Rattle.mz_logic.specs.declared.sequent.Sequent.{Sequent}
use Rattle.mz_logic.specs.Term.{Term, Bound, App, terms_of}
use Rattle.mz_logic.specs.Formula.{Formula}
use Rattle.mz_logic.specs.Substitution.{shift, value_at}
use Rattle.mz_core.specs.Statement.{Statement, Truth, Eq, Atom, Not, And, For}
use Rattle.mz_core.specs.StatementForms.{implication, equivalence, for_some}
use Rattle.mz_core.specs.TypeShift.{shift_adjective, shift_type, shift_statement}
use Rattle.mz_core.specs.TypeSubstitution.{substitute_type}
use Rattle.mz_core.specs.Guard.{adjective_literal}
use Rattle.mz_core.specs.Parts.{conjunction, where_all}
use Rattle.mz_core.specs.TypeStatements.{literal_statement, is_of_type, is_of_type_inside}
use Rattle.mz_core.specs.TypedSequent.{typed_sequent, erased_sequent}
use Rattle.mz_core.specs.Erasure.{erase}
use Rattle.mz_core.specs.Hidden.{object_type, set_type, is_in}
use Rattle.mz_core.specs.Closed.{term_under, formula_under, literal_under, adjective_under, type_under, statement_under, loci_under, loci_closed}
use Rattle.mz_core.specs.declared.typed_sequent.TypedSequent.{TypedSequent}
use Rattle.mz_core.specs.declared.adjective.Adjective.{Adjective}
use Rattle.mz_core.specs.declared.soft_type.SoftType.{SoftType}
use Rattle.mz_core.specs.declared.structure.Field.{Field}
use Rattle.mz_core.specs.declared.pattern.Pattern.{Pattern}
use Rattle.mz_core.specs.declared.registration.ExistentialRegistration.{ExistentialRegistration}
use Rattle.mz_core.specs.declared.registration.ConditionalRegistration.{ConditionalRegistration}
use Rattle.mz_core.specs.declared.registration.FunctorialRegistration.{FunctorialRegistration}
use Rattle.mz_core.specs.declared.registration.EquationRegistration.{EquationRegistration}
use Rattle.mz_core.specs.declared.scheme.Scheme.{Scheme}
use Rattle.mz_core.specs.declared.scheme.SchemeLetter.{SchemeLetter}
use Rattle.mz_core.specs.declared.scheme.SchemeLetter.TheVariants.{OfFunctor, OfPredicate}
use Rattle.mz_core.specs.declared.set_term.SetTerm.{SetTerm}
use Rattle.mz_core.specs.declared.set_term.Choice.{Choice}
use Rattle.mz_core.specs.declared.structure.Structure.{Structure}
use Rattle.mz_core.specs.declared.definition.MeansDefinition.{MeansDefinition}
use Rattle.mz_core.specs.declared.definition.EqualsDefinition.{EqualsDefinition}
use Rattle.mz_core.specs.declared.definition.AtomDefinition.{AtomDefinition}
use Rattle.mz_core.specs.declared.definition.AttributeDefinition.{AttributeDefinition}
use Rattle.mz_core.specs.declared.formula_definiens.FormulaDefiniens.{FormulaDefiniens}
use Rattle.mz_core.specs.declared.redefinition.FunctorMeaning.{FunctorMeaning}
use Rattle.mz_core.specs.declared.redefinition.FunctorMeaning.TheVariants.{Means, Equals}
use Rattle.mz_core.specs.declared.redefinition.FunctorRedefinition.{FunctorRedefinition}
use Rattle.mz_core.specs.declared.redefinition.ModeRedefinition.{ModeRedefinition}
use Rattle.mz_core.specs.declared.redefinition.AtomRedefinition.{AtomRedefinition}
use Rattle.mz_core.specs.declared.item.Item.{Item}
use Rattle.mz_core.specs.declared.item.Item.TheVariants as item
use Rattle.mz_core.proofs.TermMaps.{adjective_with}
use Rattle.mz_core.proofs.UnderTerms.{term_under-shift, term_under-more, args_under-list}
use Rattle.mz_core.proofs.AllLemmas.{all-map, all-append, all-alone, adjective_all-with, implication_all, equivalence_all, for_some_all, conjunction_all, where_all_all, adjective_literal_all, literal_statement_all, is_of_type_all, is_of_type_inside_all, erase_all}
use Rattle.mz_items.specs.declared.condition.Condition.{Condition}
use Rattle.mz_items.specs.declared.condition.Condition.TheVariants.{Existence, Uniqueness, Coherence, Compatibility, Consistency, Reducibility}
use Rattle.mz_items.specs.Loci.{over, inward, variables, term_on, predicate_on, attribute_on, mode_on}
use Rattle.mz_items.specs.Closed.{item_closed, kind_fits, contents_closed, pattern_closed, is_locus, are_distinct, right_fits, is_only, formula_definiens_under, term_definiens_under, type_if_any_under, functor_meaning_under, formula_meaning_under, functor_redefinition_under, mode_redefinition_under, atom_redefinition_under, property_form_under, existential_under, conditional_under, functorial_under, field_under, letter_closed, notation_closed}
use Rattle.mz_items.specs.Cases.{formula_cases, term_cases, agreements_in_type, agreements_as_formulas, agreements_as_terms}
use Rattle.mz_items.specs.DefinitionRows.{consistency, functor_means_thesis, functor_equals_thesis, atom_thesis, mode_means_thesis, functor_type, functor_meaning, equal_functor_type, equal_functor_meaning, predicate_meaning, attribute_meaning, mode_result_type, mode_meaning}
use Rattle.mz_items.specs.RedefinitionRows.{type_or, functor_coherence, mode_coherence, functor_compatibility, mode_compatibility, atom_compatibility, functor_redefinition_thesis, mode_redefinition_thesis, atom_redefinition_thesis}
use Rattle.mz_items.specs.RegistrationRows.{adjective_statement, adjective_statements, adjectives_inside, under_type, existential, conditional, functorial, equality, existential_thesis, conditional_thesis, functorial_thesis, reduction_thesis, identification_thesis}
use Rattle.mz_items.specs.SetTermRows.{comprehension, set_term_thesis, set_term_grant, choice_thesis, choice_grant}
use Rattle.mz_items.specs.SchemeRows.{letter_types, scheme_sequent}
use Rattle.mz_items.specs.StructureRows.{structure_atom, strict_atom, aggregate, selected, field_values, selected_values, given_values, field_fits, fit_each, select_each, for_objects, made_of, grant_of_ancestors, grant_of_fields, grant_of_aggregate, grant_of_strict, structure_grants}
use Rattle.mz_items.specs.PropertyRows.{property_statement}
use Rattle.mz_items.specs.Items.{owes, grants, owed_if_any, owed_condition, owed_conditions, owed_statements, granted_bodies, granted_statements, loci_of, conditions, thesis_of}
use Rattle.mz_items.specs.Laws.{sequent_closed, ClosedOwed, ClosedGranted}
use Rattle.mz_items.proofs.RowLemmas.{under_persists, under_at, over_under, inward_under, variables_under, all-reverse, term_on_under, predicate_on_under, attribute_on_under, mode_on_under, shift_type_under, shift_statement_under, agreements_in_type_under, agreements_as_formulas_under, agreements_as_terms_under, formula_cases_under, term_cases_under, existence_under, uniqueness_under, coherence_under, functor_means_under, functor_equals_under, atom_means_under, mode_type_under, mode_means_under}
use Rattle.mz_items.proofs.ItemLemmas.{three, filled_under, type_filled_under, property_under}

-- a statement, if any, under n binders
abbrev AtMost : ℕ → Option Statement → Type 0
AtMost n None = Unit {0}
AtMost n (Some s) = statement_under n s ≡ true

-- a sequent of statements under no binder
abbrev typed_closed : TypedSequent → Bool
typed_closed s = list_all (statement_under 0) s.premises && statement_under 0 s.conclusion

erased_closed : (s : TypedSequent) → typed_closed s ≡ true → sequent_closed (erased_sequent s) ≡ true
erased_closed s h =
    let both : (list_all (statement_under 0) s.premises ≡ true) × (statement_under 0 s.conclusion ≡ true) = and_parts (list_all (statement_under 0) s.premises) (statement_under 0 s.conclusion) h in
    and_from _ _ (all-map (statement_under 0) (formula_under 0) erase s.premises (λ t k. erase_all term_under 0 t under_persists k) both.0) (erase_all term_under 0 s.conclusion under_persists both.1)

over_closed : (loci : List SoftType) (s : Statement) → loci_closed loci ≡ true → statement_under (length loci) s ≡ true → statement_under 0 (over loci s) ≡ true
over_closed loci s c h = let e : length loci ≡ 0 + length loci = omega arith in over_under 0 loci s c (under_at (length loci) (0 + length loci) s e h)

owed_any_closed : (loci : List SoftType) (s : Option Statement) → loci_closed loci ≡ true → AtMost (length loci) s → list_all typed_closed (owed_if_any loci s) ≡ true
owed_any_closed loci None c h = refl
owed_any_closed loci (Some s) c h = and_from _ _ (over_closed loci s c h) refl

all-flat : {X Y : Type 0} (p : Y → Bool) (f : X → List Y) (xs : List X) → ((x : X) → list_all p (f x) ≡ true) → list_all p (flat_map f xs) ≡ true
all-flat p f [] each = refl
all-flat p f (x ∷ xs) each = all-append p (f x) (flat_map f xs) (each x) (all-flat p f xs each)

-- all conditions of an item
conditions_closed : (loci : List SoftType) (i : Item) → loci_closed loci ≡ true → ((c : Condition) → AtMost (length loci) (thesis_of i c)) → list_all typed_closed (owed_conditions loci i) ≡ true
conditions_closed loci i c h =
    all-flat typed_closed (owed_condition loci i) conditions (λ d. owed_any_closed loci (thesis_of i d) c (h d))

consistency_at : (n : ℕ) (ss : List Statement) → list_all (statement_under n) ss ≡ true → AtMost n (consistency ss)
consistency_at n [] h = tt
consistency_at n (s ∷ ss) h = conjunction_all term_under n (s ∷ ss) h

-- patterns
pattern_loci : (p : Pattern) → pattern_closed p ≡ true → loci_closed p.loci ≡ true
pattern_loci p h =
    let a : ((loci_closed p.loci && list_all (is_locus (length p.loci)) (p.left ++ p.right) && are_distinct (p.left ++ p.right)) ≡ true) × (right_fits p.kind p.right ≡ true) = and_parts (loci_closed p.loci && list_all (is_locus (length p.loci)) (p.left ++ p.right) && are_distinct (p.left ++ p.right)) (right_fits p.kind p.right) h in
    (three (loci_closed p.loci) (list_all (is_locus (length p.loci)) (p.left ++ p.right)) (are_distinct (p.left ++ p.right)) a.0).0

-- definitions
means_thesis_at : (n : ℕ) (d : MeansDefinition) → type_under n d.ty ≡ true → formula_definiens_under n (n + 1) d.definiens ≡ true → (c : Condition) → AtMost n (functor_means_thesis d c)
means_thesis_at n d t h Existence = existence_under n d.ty d.definiens t h
means_thesis_at n d t h Uniqueness = uniqueness_under n d.ty d.definiens t h
means_thesis_at n d t h Coherence = tt
means_thesis_at n d t h Compatibility = tt
means_thesis_at n d t h Consistency = consistency_at n (agreements_in_type d.ty (formula_cases d.definiens)) (agreements_in_type_under n d.ty (formula_cases d.definiens) t (formula_cases_under n (n + 1) d.definiens h))
means_thesis_at n d t h Reducibility = tt

mode_thesis_at : (n : ℕ) (d : MeansDefinition) → type_under n d.ty ≡ true → formula_definiens_under n (n + 1) d.definiens ≡ true → (c : Condition) → AtMost n (mode_means_thesis d c)
mode_thesis_at n d t h Existence = existence_under n d.ty d.definiens t h
mode_thesis_at n d t h Uniqueness = tt
mode_thesis_at n d t h Coherence = tt
mode_thesis_at n d t h Compatibility = tt
mode_thesis_at n d t h Consistency = consistency_at n (agreements_in_type d.ty (formula_cases d.definiens)) (agreements_in_type_under n d.ty (formula_cases d.definiens) t (formula_cases_under n (n + 1) d.definiens h))
mode_thesis_at n d t h Reducibility = tt

equals_thesis_at : (n : ℕ) (d : EqualsDefinition) → type_under n d.ty ≡ true → term_definiens_under n d.definiens ≡ true → (c : Condition) → AtMost n (functor_equals_thesis d c)
equals_thesis_at n d t h Existence = tt
equals_thesis_at n d t h Uniqueness = tt
equals_thesis_at n d t h Coherence = coherence_under n d.ty d.definiens t h
equals_thesis_at n d t h Compatibility = tt
equals_thesis_at n d t h Consistency = consistency_at n (agreements_as_terms (term_cases d.definiens)) (agreements_as_terms_under n (term_cases d.definiens) (term_cases_under n d.definiens h))
equals_thesis_at n d t h Reducibility = tt

atom_thesis_at : (n : ℕ) (d : FormulaDefiniens) → formula_definiens_under n n d ≡ true → (c : Condition) → AtMost n (atom_thesis d c)
atom_thesis_at n d h Existence = tt
atom_thesis_at n d h Uniqueness = tt
atom_thesis_at n d h Coherence = tt
atom_thesis_at n d h Compatibility = tt
atom_thesis_at n d h Consistency = consistency_at n (agreements_as_formulas (formula_cases d)) (agreements_as_formulas_under n (formula_cases d) (formula_cases_under n n d h))
atom_thesis_at n d h Reducibility = tt

-- redefinitions
type_or_under : (n : ℕ) (ty : Option SoftType) (old : SoftType) → type_if_any_under n ty ≡ true → type_under n old ≡ true → type_under n (type_or ty old) ≡ true
type_or_under n None old h k = k
type_or_under n (Some ty) old h k = h

functor_coherence_at : (n : ℕ) (t : Term) (ty : Option SoftType) → term_under n t ≡ true → type_if_any_under n ty ≡ true → AtMost n (functor_coherence t ty)
functor_coherence_at n t None h k = tt
functor_coherence_at n t (Some ty) h k = is_of_type_all term_under n ty t k h

mode_coherence_at : (n : ℕ) (mode : SoftType) (ty : Option SoftType) → type_under n mode ≡ true → type_if_any_under n ty ≡ true → AtMost n (mode_coherence mode ty)
mode_coherence_at n mode None h k = tt
mode_coherence_at n mode (Some ty) h k = mode_type_under n mode ty h k

functor_compatibility_at : (n : ℕ) (t : Term) (ty : SoftType) (m : Option FunctorMeaning) → term_under n t ≡ true → type_under n ty ≡ true → functor_meaning_under n m ≡ true → AtMost n (functor_compatibility t ty m)
functor_compatibility_at n t ty None h k l = tt
functor_compatibility_at n t ty (Some (Means d)) h k l = functor_means_under n t ty d h k l
functor_compatibility_at n t ty (Some (Equals d)) h k l = functor_equals_under n t d h l

mode_compatibility_at : (n : ℕ) (mode ty : SoftType) (m : Option FormulaDefiniens) → type_under n mode ≡ true → type_under n ty ≡ true → formula_meaning_under n (n + 1) m ≡ true → AtMost n (mode_compatibility mode ty m)
mode_compatibility_at n mode ty None h k l = tt
mode_compatibility_at n mode ty (Some d) h k l = mode_means_under n mode ty d h k l

atom_compatibility_at : (n : ℕ) (s : Statement) (m : Option FormulaDefiniens) → statement_under n s ≡ true → formula_meaning_under n n m ≡ true → AtMost n (atom_compatibility s m)
atom_compatibility_at n s None h k = tt
atom_compatibility_at n s (Some d) h k = atom_means_under n s d h k

four : (a b c d : Bool) → (a && b && c && d) ≡ true → (a ≡ true) × (b ≡ true) × (c ≡ true) × (d ≡ true)
four a b c d h =
    let outer : ((a && b && c) ≡ true) × (d ≡ true) = and_parts (a && b && c) d h in
    let inner : (a ≡ true) × (b ≡ true) × (c ≡ true) = three a b c outer.0 in
    (inner.0, inner.1, inner.2, outer.1)

functor_again_at : (n : ℕ) (d : FunctorRedefinition) → functor_redefinition_under n d ≡ true → (c : Condition) → AtMost n (functor_redefinition_thesis d c)
functor_again_at n d h Existence = tt
functor_again_at n d h Uniqueness = tt
functor_again_at n d h Coherence =
    let f : (term_under n d.term ≡ true) × (type_under n d.old ≡ true) × (type_if_any_under n d.ty ≡ true) × (functor_meaning_under n d.meaning ≡ true) = four (term_under n d.term) (type_under n d.old) (type_if_any_under n d.ty) (functor_meaning_under n d.meaning) h in
    functor_coherence_at n d.term d.ty f.0 f.2
functor_again_at n d h Compatibility =
    let f : (term_under n d.term ≡ true) × (type_under n d.old ≡ true) × (type_if_any_under n d.ty ≡ true) × (functor_meaning_under n d.meaning ≡ true) = four (term_under n d.term) (type_under n d.old) (type_if_any_under n d.ty) (functor_meaning_under n d.meaning) h in
    functor_compatibility_at n d.term (type_or d.ty d.old) d.meaning f.0 (type_or_under n d.ty d.old f.2 f.1) f.3
functor_again_at n d h Consistency = tt
functor_again_at n d h Reducibility = tt

mode_again_at : (n : ℕ) (d : ModeRedefinition) → mode_redefinition_under n d ≡ true → (c : Condition) → AtMost n (mode_redefinition_thesis d c)
mode_again_at n d h Existence = tt
mode_again_at n d h Uniqueness = tt
mode_again_at n d h Coherence =
    let f : (type_under n d.mode ≡ true) × (type_under n d.old ≡ true) × (type_if_any_under n d.ty ≡ true) × (formula_meaning_under n (n + 1) d.meaning ≡ true) = four (type_under n d.mode) (type_under n d.old) (type_if_any_under n d.ty) (formula_meaning_under n (n + 1) d.meaning) h in
    mode_coherence_at n d.mode d.ty f.0 f.2
mode_again_at n d h Compatibility =
    let f : (type_under n d.mode ≡ true) × (type_under n d.old ≡ true) × (type_if_any_under n d.ty ≡ true) × (formula_meaning_under n (n + 1) d.meaning ≡ true) = four (type_under n d.mode) (type_under n d.old) (type_if_any_under n d.ty) (formula_meaning_under n (n + 1) d.meaning) h in
    mode_compatibility_at n d.mode (type_or d.ty d.old) d.meaning f.0 (type_or_under n d.ty d.old f.2 f.1) f.3
mode_again_at n d h Consistency = tt
mode_again_at n d h Reducibility = tt

atom_again_at : (n : ℕ) (d : AtomRedefinition) → atom_redefinition_under n d ≡ true → (c : Condition) → AtMost n (atom_redefinition_thesis d c)
atom_again_at n d h Existence = tt
atom_again_at n d h Uniqueness = tt
atom_again_at n d h Coherence = tt
atom_again_at n d h Compatibility =
    let both : (literal_under n d.literal ≡ true) × (formula_meaning_under n n d.meaning ≡ true) = and_parts (literal_under n d.literal) (formula_meaning_under n n d.meaning) h in
    atom_compatibility_at n (literal_statement d.literal) d.meaning (literal_statement_all term_under n d.literal both.0) both.1
atom_again_at n d h Consistency = tt
atom_again_at n d h Reducibility = tt

-- registrations
adjective_raised : (n : ℕ) (a : Adjective) → adjective_under n a ≡ true → adjective_under (n + 1) (shift_adjective 0 1 a) ≡ true
adjective_raised n a h = adjective_all-with term_under term_under n (n + 1) (shift 0 1) a (λ t k. term_under-shift 0 1 n t k) h

adjective_statements_under : (n : ℕ) (xs : List Adjective) (t : Term) → list_all (adjective_under n) xs ≡ true → term_under n t ≡ true → list_all (statement_under n) (adjective_statements xs t) ≡ true
adjective_statements_under n xs t h k =
    all-map (adjective_under n) (statement_under n) (adjective_statement t) xs (λ a l. literal_statement_all term_under n (adjective_literal t a) (adjective_literal_all term_under n t a k l)) h

index_0 : (n : ℕ) → term_under (n + 1) (Bound 0) ≡ true
index_0 n = let lt : 0 < n + 1 = omega arith in lt-ltb 0 (n + 1) lt

inside_under : (n : ℕ) (xs : List Adjective) → list_all (adjective_under n) xs ≡ true → list_all (statement_under (n + 1)) (adjectives_inside xs) ≡ true
inside_under n xs h =
    adjective_statements_under (n + 1) (map (shift_adjective 0 1) xs) (Bound 0) (all-map (adjective_under n) (adjective_under (n + 1)) (shift_adjective 0 1) xs (adjective_raised n) h) (index_0 n)

existential_at : (n : ℕ) (r : ExistentialRegistration) → existential_under n r ≡ true → (c : Condition) → AtMost n (existential_thesis r c)
existential_at n r h Existence =
    let both : (list_all (adjective_under n) r.adjectives ≡ true) × (type_under n r.ty ≡ true) = and_parts (list_all (adjective_under n) r.adjectives) (type_under n r.ty) h in
    for_some_all term_under n r.ty (conjunction (adjectives_inside r.adjectives)) both.1 (conjunction_all term_under (n + 1) (adjectives_inside r.adjectives) (inside_under n r.adjectives both.0))
existential_at n r h Uniqueness = tt
existential_at n r h Coherence = tt
existential_at n r h Compatibility = tt
existential_at n r h Consistency = tt
existential_at n r h Reducibility = tt

conditional_at : (n : ℕ) (r : ConditionalRegistration) → conditional_under n r ≡ true → (c : Condition) → AtMost n (conditional_thesis r c)
conditional_at n r h Existence = tt
conditional_at n r h Uniqueness = tt
conditional_at n r h Coherence =
    let t : (list_all (adjective_under n) r.from ≡ true) × (list_all (adjective_under n) r.to ≡ true) × (type_under n r.ty ≡ true) = three (list_all (adjective_under n) r.from) (list_all (adjective_under n) r.to) (type_under n r.ty) h in
    and_from _ _ t.2
    (where_all_all term_under (n + 1) (adjectives_inside r.from) (conjunction (adjectives_inside r.to)) (inside_under n r.from t.0) (conjunction_all term_under (n + 1) (adjectives_inside r.to) (inside_under n r.to t.1)))
conditional_at n r h Compatibility = tt
conditional_at n r h Consistency = tt
conditional_at n r h Reducibility = tt

under_type_under : (n : ℕ) (ty : Option SoftType) (t : Term) (s : Statement) → type_if_any_under n ty ≡ true → term_under n t ≡ true → statement_under n s ≡ true → statement_under n (under_type ty t s) ≡ true
under_type_under n None t s h k l = l
under_type_under n (Some ty) t s h k l = implication_all term_under n (is_of_type ty t) s (is_of_type_all term_under n ty t h k) l

functorial_at : (n : ℕ) (r : FunctorialRegistration) → functorial_under n r ≡ true → (c : Condition) → AtMost n (functorial_thesis r c)
functorial_at n r h Existence = tt
functorial_at n r h Uniqueness = tt
functorial_at n r h Coherence =
    let t : (term_under n r.term ≡ true) × (list_all (adjective_under n) r.adjectives ≡ true) × (type_if_any_under n r.ty ≡ true) = three (term_under n r.term) (list_all (adjective_under n) r.adjectives) (type_if_any_under n r.ty) h in
    under_type_under n r.ty r.term (conjunction (adjective_statements r.adjectives r.term)) t.2 t.0 (conjunction_all term_under n (adjective_statements r.adjectives r.term) (adjective_statements_under n r.adjectives r.term t.1 t.0))
functorial_at n r h Compatibility = tt
functorial_at n r h Consistency = tt
functorial_at n r h Reducibility = tt

reduction_at : (n : ℕ) (r : EquationRegistration) → statement_under n (equality r) ≡ true → (c : Condition) → AtMost n (reduction_thesis r c)
reduction_at n r h Existence = tt
reduction_at n r h Uniqueness = tt
reduction_at n r h Coherence = tt
reduction_at n r h Compatibility = tt
reduction_at n r h Consistency = tt
reduction_at n r h Reducibility = h

identification_at : (n : ℕ) (r : EquationRegistration) → statement_under n (equality r) ≡ true → (c : Condition) → AtMost n (identification_thesis r c)
identification_at n r h Existence = tt
identification_at n r h Uniqueness = tt
identification_at n r h Coherence = tt
identification_at n r h Compatibility = h
identification_at n r h Consistency = tt
identification_at n r h Reducibility = tt

-- schemes
letter_types_closed : (ls : List SchemeLetter) → list_all letter_closed ls ≡ true → list_all (statement_under 0) (letter_types ls) ≡ true
letter_types_closed [] h = refl
letter_types_closed (OfFunctor s places ty ∷ ls) h =
    let both : ((loci_closed places && type_under (length places) ty) ≡ true) × (list_all letter_closed ls ≡ true) = and_parts (loci_closed places && type_under (length places) ty) (list_all letter_closed ls) h in
    let parts : (loci_closed places ≡ true) × (type_under (length places) ty ≡ true) = and_parts (loci_closed places) (type_under (length places) ty) both.0 in
    and_from _ _ (over_closed places (is_of_type ty (term_on places s)) parts.0 (is_of_type_all term_under (length places) ty (term_on places s) parts.1 (term_on_under places s))) (letter_types_closed ls both.1)
letter_types_closed (OfPredicate s places ∷ ls) h = letter_types_closed ls (and_parts (loci_closed places) (list_all letter_closed ls) h).1

scheme_owed_closed : (s : Scheme) → (list_all letter_closed s.letters && list_all (statement_under 0) s.premises && statement_under 0 s.conclusion) ≡ true → typed_closed (scheme_sequent s) ≡ true
scheme_owed_closed s h =
    let t : (list_all letter_closed s.letters ≡ true) × (list_all (statement_under 0) s.premises ≡ true) × (statement_under 0 s.conclusion ≡ true) = three (list_all letter_closed s.letters) (list_all (statement_under 0) s.premises) (statement_under 0 s.conclusion) h in
    and_from _ _ (all-append (statement_under 0) (letter_types s.letters) s.premises (letter_types_closed s.letters t.0) t.1) t.2

scheme_granted_closed : (s : Scheme) → (list_all letter_closed s.letters && list_all (statement_under 0) s.premises && statement_under 0 s.conclusion) ≡ true → statement_under 0 (implication (conjunction s.premises) s.conclusion) ≡ true
scheme_granted_closed s h =
    let t : (list_all letter_closed s.letters ≡ true) × (list_all (statement_under 0) s.premises ≡ true) × (statement_under 0 s.conclusion ≡ true) = three (list_all letter_closed s.letters) (list_all (statement_under 0) s.premises) (statement_under 0 s.conclusion) h in
    implication_all term_under 0 (conjunction s.premises) s.conclusion (conjunction_all term_under 0 s.premises t.1) t.2

-- set terms
comprehension_under : (n by : ℕ) (set : Term) (s : SetTerm) → type_under n s.ty ≡ true → term_under (n + 1) s.term ≡ true → statement_under (n + 1) s.formula ≡ true → term_under (n + by + 1) set ≡ true → statement_under (n + by) (comprehension by set s) ≡ true
comprehension_under n by set s ht hu hf hs =
    let type_sum : n + (by + 1) ≡ n + by + 1 = omega arith in
    let term_sum : n + 1 + (by + 1) ≡ n + by + 1 + 1 = omega arith in
    let formula_before : n + 1 ≡ 1 + n = omega arith in
    let formula_after : 1 + (n + (by + 1)) ≡ n + by + 1 + 1 = omega arith in
    let one : 1 < n + by + 1 + 1 = omega arith in
    let P : ℕ → Type 0 = λ m. type_under m (shift_type 0 (by + 1) s.ty) ≡ true in
    let Q : ℕ → Type 0 = λ m. term_under m (shift 1 (by + 1) s.term) ≡ true in
    let ty : type_under (n + by + 1) (shift_type 0 (by + 1) s.ty) ≡ true = subst P type_sum (shift_type_under 0 (by + 1) n s.ty ht) in
    let term : term_under (n + by + 1 + 1) (shift 1 (by + 1) s.term) ≡ true = subst Q term_sum (term_under-shift 1 (by + 1) (n + 1) s.term hu) in
    let body : statement_under (n + by + 1 + 1) (shift_statement 1 (by + 1) s.formula) ≡ true = under_at (1 + (n + (by + 1))) (n + by + 1 + 1) (shift_statement 1 (by + 1) s.formula) formula_after (shift_statement_under 1 (by + 1) n s.formula (under_at (n + 1) (1 + n) s.formula formula_before hf)) in
    let member : statement_under (n + by + 1) (is_in (Bound 0) set) ≡ true = and_from _ _ (index_0 (n + by)) (and_from _ _ hs refl) in
    let made : statement_under (n + by + 1) (for_some (shift_type 0 (by + 1) s.ty) (And (Eq (Bound 1) (shift 1 (by + 1) s.term)) (shift_statement 1 (by + 1) s.formula))) ≡ true =
    for_some_all term_under (n + by + 1) (shift_type 0 (by + 1) s.ty) (And (Eq (Bound 1) (shift 1 (by + 1) s.term)) (shift_statement 1 (by + 1) s.formula)) ty (and_from _ _ (and_from _ _ (lt-ltb 1 (n + by + 1 + 1) one) term) body) in
    and_from _ _ refl (equivalence_all term_under (n + by + 1) (is_in (Bound 0) set) (for_some (shift_type 0 (by + 1) s.ty) (And (Eq (Bound 1) (shift 1 (by + 1) s.term)) (shift_statement 1 (by + 1) s.formula))) member made)

set_term_at : (n : ℕ) (s : SetTerm) → type_under n s.ty ≡ true → term_under (n + 1) s.term ≡ true → statement_under (n + 1) s.formula ≡ true → (c : Condition) → AtMost n (set_term_thesis s c)
set_term_at n s ht hu hf Existence =
    let one : 1 < n + 1 + 1 = omega arith in
    for_some_all term_under n set_type (comprehension 1 (Bound 1) s) refl (comprehension_under n 1 (Bound 1) s ht hu hf (lt-ltb 1 (n + 1 + 1) one))
set_term_at n s ht hu hf Uniqueness = tt
set_term_at n s ht hu hf Coherence = tt
set_term_at n s ht hu hf Compatibility = tt
set_term_at n s ht hu hf Consistency = tt
set_term_at n s ht hu hf Reducibility = tt

set_term_grant_under : (s : SetTerm) → type_under (length s.loci) s.ty ≡ true → term_under (length s.loci + 1) s.term ≡ true → statement_under (length s.loci + 1) s.formula ≡ true → statement_under (length s.loci) (comprehension 0 (shift 0 1 (term_on s.loci s.sym)) s) ≡ true
set_term_grant_under s ht hu hf =
    let e : length s.loci + 0 ≡ length s.loci = omega arith in
    let f : length s.loci + 1 ≡ length s.loci + 0 + 1 = omega arith in
    let Q : ℕ → Type 0 = λ m. term_under m (shift 0 1 (term_on s.loci s.sym)) ≡ true in
    under_at (length s.loci + 0) (length s.loci) (comprehension 0 (shift 0 1 (term_on s.loci s.sym)) s) e
    (comprehension_under (length s.loci) 0 (shift 0 1 (term_on s.loci s.sym)) s ht hu hf (subst Q f (term_under-shift 0 1 (length s.loci) (term_on s.loci s.sym) (term_on_under s.loci s.sym))))

choice_at : (n : ℕ) (x : Choice) → type_under n x.ty ≡ true → (c : Condition) → AtMost n (choice_thesis x c)
choice_at n x h Existence = for_some_all term_under n x.ty Truth h refl
choice_at n x h Uniqueness = tt
choice_at n x h Coherence = tt
choice_at n x h Compatibility = tt
choice_at n x h Consistency = tt
choice_at n x h Reducibility = tt

-- structures
length-inward : (depth count : ℕ) → length (inward depth count) ≡ count
length-inward depth zero = refl
length-inward depth (suc count) =
    let e : length (inward depth count ++ Bound (depth + count) ∷ []) ≡ length (inward depth count) + 1 = length-append (inward depth count) (Bound (depth + count) ∷ []) in
    let ih : length (inward depth count) ≡ count = length-inward depth count in
    omega (arith, e, ih)

last_under : (n by : ℕ) (loci : List SoftType) (t : Term) → length loci + by ≡ n → term_under n t ≡ true → list_all (term_under n) (variables by (length loci) ++ t ∷ []) ≡ true
last_under n by loci t e h =
    let le : by + length loci ≤ n = omega (arith, e) in
    all-append (term_under n) (variables by (length loci)) (t ∷ []) (variables_under n by (length loci) le) (all-alone (term_under n) t h)

aggregate_under : (n by : ℕ) (s : Structure) (ts : List Term) → length s.loci + by ≡ n → list_all (term_under n) ts ≡ true → term_under n (aggregate by s ts) ≡ true
aggregate_under n by s ts e h =
    let le : by + length s.loci ≤ n = omega (arith, e) in
    args_under-list n (variables by (length s.loci) ++ ts) (all-append (term_under n) (variables by (length s.loci)) ts (variables_under n by (length s.loci) le) h)

selected_under : (n : ℕ) (t : Term) (f : Field) → term_under n t ≡ true → term_under n (selected t f) ≡ true
selected_under n t f h = and_from _ _ h refl

abbrev always : Field → Bool
always f = true

all_always : (fs : List Field) → list_all always fs ≡ true
all_always [] = refl
all_always (f ∷ fs) = all_always fs

selected_all : (n : ℕ) (t : Term) (fs : List Field) → term_under n t ≡ true → list_all (term_under n) (map (selected t) fs) ≡ true
selected_all n t fs h = all-map always (term_under n) (selected t) fs (λ f k. selected_under n t f h) (all_always fs)

field_values_under : (n : ℕ) (ts ls : List Term) (y : Term) → list_all (term_under n) ts ≡ true → term_under n y ≡ true → list_all (term_under n) ls ≡ true → list_all (term_under n) (field_values ts y ls) ≡ true
field_values_under n ts ls y h k l = all-append (term_under n) ts (y ∷ ls) h (and_from _ _ k l)

selected_values_under : (s : Structure) → list_all (term_under (length s.loci + 1)) (selected_values s) ≡ true
selected_values_under s =
    let le : 1 + length s.loci ≤ length s.loci + 1 = omega arith in
    field_values_under (length s.loci + 1) (reverse (map (selected (Bound 0)) s.fields)) (inward 1 (length s.loci)) (Bound 0)
    (all-reverse (term_under (length s.loci + 1)) (map (selected (Bound 0)) s.fields) (selected_all (length s.loci + 1) (Bound 0) s.fields (index_0 (length s.loci))))
    (index_0 (length s.loci)) (inward_under (length s.loci + 1) 1 (length s.loci) le)

length-selected_values : (s : Structure) → length (selected_values s) ≡ length s.loci + 1 + length s.fields
length-selected_values s =
    let a : length (reverse (map (selected (Bound 0)) s.fields) ++ Bound 0 ∷ inward 1 (length s.loci)) ≡ length (reverse (map (selected (Bound 0)) s.fields)) + length (Bound 0 ∷ inward 1 (length s.loci)) = length-append (reverse (map (selected (Bound 0)) s.fields)) (Bound 0 ∷ inward 1 (length s.loci)) in
    let b : length (reverse (map (selected (Bound 0)) s.fields)) ≡ length (map (selected (Bound 0)) s.fields) = length-reverse (map (selected (Bound 0)) s.fields) in
    let c : length (map (selected (Bound 0)) s.fields) ≡ length s.fields = length-map s.fields (selected (Bound 0)) in
    let d : length (inward 1 (length s.loci)) ≡ length s.loci = length-inward 1 (length s.loci) in
    omega (arith, a, b, c, d)

given_values_under : (s : Structure) (count : ℕ) (a : Term) → term_under (length s.loci + count) a ≡ true → list_all (term_under (length s.loci + count)) (given_values s count a) ≡ true
given_values_under s count a h =
    let low : 0 + count ≤ length s.loci + count = omega arith in
    let high : count + length s.loci ≤ length s.loci + count = omega arith in
    field_values_under (length s.loci + count) (inward 0 count) (inward count (length s.loci)) a (inward_under (length s.loci + count) 0 count low) h (inward_under (length s.loci + count) count (length s.loci) high)

length-given_values : (s : Structure) (count : ℕ) (a : Term) → length (given_values s count a) ≡ length s.loci + 1 + count
length-given_values s count a =
    let b : length (inward 0 count ++ a ∷ inward count (length s.loci)) ≡ length (inward 0 count) + length (a ∷ inward count (length s.loci)) = length-append (inward 0 count) (a ∷ inward count (length s.loci)) in
    let c : length (inward 0 count) ≡ count = length-inward 0 count in
    let d : length (inward count (length s.loci)) ≡ length s.loci = length-inward count (length s.loci) in
    omega (arith, b, c, d)

for_objects_under : (n count : ℕ) (s : Statement) → statement_under (n + count) s ≡ true → statement_under n (for_objects count s) ≡ true
for_objects_under n zero s h = let e : n + 0 ≡ n = omega arith in under_at (n + 0) n s e h
for_objects_under n (suc count) s h =
    let e : n + suc count ≡ n + 1 + count = omega arith in
    and_from _ _ refl (for_objects_under (n + 1) count s (under_at (n + suc count) (n + 1 + count) s e h))

fit_each_under : (n m : ℕ) (values : List Term) (fs : List Field) (zs : List Term) → length values ≡ m → list_all (term_under n) values ≡ true → list_all (field_under m) fs ≡ true → list_all (term_under n) zs ≡ true → list_all (statement_under n) (fit_each values fs zs) ≡ true
fit_each_under n m values [] zs e hv hf hz = refl
fit_each_under n m values (f ∷ fs) [] e hv hf hz = refl
fit_each_under n m values (f ∷ fs) (z ∷ zs) e hv hf hz =
    let both : (type_under m f.ty ≡ true) × (list_all (field_under m) fs ≡ true) = and_parts (type_under m f.ty) (list_all (field_under m) fs) hf in
    let ends : (term_under n z ≡ true) × (list_all (term_under n) zs ≡ true) = and_parts (term_under n z) (list_all (term_under n) zs) hz in
    and_from _ _ (is_of_type_all term_under n (substitute_type 0 (value_at values) f.ty) z (type_filled_under n values m f.ty e hv both.0) ends.0) (fit_each_under n m values fs zs e hv both.1 ends.1)

select_each_under : (n : ℕ) (a : Term) (fs : List Field) (zs : List Term) → term_under n a ≡ true → list_all (term_under n) zs ≡ true → list_all (statement_under n) (select_each a fs zs) ≡ true
select_each_under n a [] zs h k = refl
select_each_under n a (f ∷ fs) [] h k = refl
select_each_under n a (f ∷ fs) (z ∷ zs) h k =
    let ends : (term_under n z ≡ true) × (list_all (term_under n) zs ≡ true) = and_parts (term_under n z) (list_all (term_under n) zs) k in
    and_from _ _ (and_from _ _ (selected_under n a f h) ends.0) (select_each_under n a fs zs h ends.1)

aggregate_grant_under : (s : Structure) → list_all (field_under (length s.loci + 1 + length s.fields)) s.fields ≡ true → statement_under (length s.loci) (grant_of_aggregate s) ≡ true
aggregate_grant_under s hf =
    let m : ℕ = length s.loci + length s.fields in
    let zs : List Term = variables 0 (length s.fields) in
    let a : Term = aggregate (length s.fields) s (variables 0 (length s.fields)) in
    let low : 0 + length s.fields ≤ length s.loci + length s.fields = omega arith in
    let hz : list_all (term_under (length s.loci + length s.fields)) (variables 0 (length s.fields)) ≡ true = variables_under (length s.loci + length s.fields) 0 (length s.fields) low in
    let hm : term_under (length s.loci + length s.fields) (aggregate (length s.fields) s (variables 0 (length s.fields))) ≡ true = aggregate_under (length s.loci + length s.fields) (length s.fields) s (variables 0 (length s.fields)) refl hz in
    for_objects_under (length s.loci) (length s.fields) (made_of s (length s.fields) (variables 0 (length s.fields)) a)
    (implication_all term_under (length s.loci + length s.fields) (conjunction (fit_each (given_values s (length s.fields) a) s.fields zs)) (conjunction (structure_atom (length s.fields) s a ∷ strict_atom (length s.fields) s a ∷ select_each a s.fields zs))
    (conjunction_all term_under (length s.loci + length s.fields) (fit_each (given_values s (length s.fields) a) s.fields zs)
    (fit_each_under (length s.loci + length s.fields) (length s.loci + 1 + length s.fields) (given_values s (length s.fields) a) s.fields zs (length-given_values s (length s.fields) a) (given_values_under s (length s.fields) a hm) hf hz))
    (conjunction_all term_under (length s.loci + length s.fields) (structure_atom (length s.fields) s a ∷ strict_atom (length s.fields) s a ∷ select_each a s.fields zs)
    (and_from _ _ (last_under (length s.loci + length s.fields) (length s.fields) s.loci a refl hm)
    (and_from _ _ (last_under (length s.loci + length s.fields) (length s.fields) s.loci a refl hm) (select_each_under (length s.loci + length s.fields) a s.fields zs hm hz)))))

structure_under : (s : Structure) → list_all (type_under (length s.loci)) s.ancestors ≡ true → list_all (field_under (length s.loci + 1 + length s.fields)) s.fields ≡ true → list_all (statement_under (length s.loci)) (structure_grants s) ≡ true
structure_under s ha hf =
    let y : term_under (length s.loci + 1) (Bound 0) ≡ true = index_0 (length s.loci) in
    let atom : statement_under (length s.loci + 1) (structure_atom 1 s (Bound 0)) ≡ true = last_under (length s.loci + 1) 1 s.loci (Bound 0) refl y in
    let strict : statement_under (length s.loci + 1) (strict_atom 1 s (Bound 0)) ≡ true = last_under (length s.loci + 1) 1 s.loci (Bound 0) refl y in
    let first : statement_under (length s.loci) (grant_of_ancestors s) ≡ true =
    and_from _ _ refl (implication_all term_under (length s.loci + 1) (structure_atom 1 s (Bound 0)) (conjunction (map is_of_type_inside s.ancestors)) atom
    (conjunction_all term_under (length s.loci + 1) (map is_of_type_inside s.ancestors) (all-map (type_under (length s.loci)) (statement_under (length s.loci + 1)) is_of_type_inside s.ancestors (λ ty k. is_of_type_inside_all term_under (length s.loci) ty under_persists k) ha))) in
    let second : statement_under (length s.loci) (grant_of_fields s) ≡ true =
    and_from _ _ refl (implication_all term_under (length s.loci + 1) (structure_atom 1 s (Bound 0)) (conjunction (map (field_fits (selected_values s)) s.fields)) atom
    (conjunction_all term_under (length s.loci + 1) (map (field_fits (selected_values s)) s.fields) (all-map (field_under (length s.loci + 1 + length s.fields)) (statement_under (length s.loci + 1)) (field_fits (selected_values s)) s.fields
    (λ f k. is_of_type_all term_under (length s.loci + 1) (substitute_type 0 (value_at (selected_values s)) f.ty) (selected (Bound 0) f) (type_filled_under (length s.loci + 1) (selected_values s) (length s.loci + 1 + length s.fields) f.ty (length-selected_values s) (selected_values_under s) k) (selected_under (length s.loci + 1) (Bound 0) f y)) hf))) in
    let third : statement_under (length s.loci) (grant_of_aggregate s) ≡ true = aggregate_grant_under s hf in
    let fourth : statement_under (length s.loci) (grant_of_strict s) ≡ true =
    and_from _ _ refl (implication_all term_under (length s.loci + 1) (And (structure_atom 1 s (Bound 0)) (strict_atom 1 s (Bound 0))) (Eq (Bound 0) (aggregate 1 s (map (selected (Bound 0)) s.fields))) (and_from _ _ atom strict)
    (and_from _ _ y (aggregate_under (length s.loci + 1) 1 s (map (selected (Bound 0)) s.fields) refl (selected_all (length s.loci + 1) (Bound 0) s.fields y)))) in
    and_from _ _ first (and_from _ _ second (and_from _ _ third (and_from _ _ fourth refl)))

-- items
over_all_closed : (loci : List SoftType) (ss : List Statement) → loci_closed loci ≡ true → list_all (statement_under (length loci)) ss ≡ true → list_all (statement_under 0) (map (over loci) ss) ≡ true
over_all_closed loci ss c h = all-map (statement_under (length loci)) (statement_under 0) (over loci) ss (λ s k. over_closed loci s c k) h

one_closed : (n : ℕ) (s : Statement) → statement_under n s ≡ true → list_all (statement_under n) (s ∷ []) ≡ true
one_closed n s h = all-alone (statement_under n) s h

two_closed : (n : ℕ) (s t : Statement) → statement_under n s ≡ true → statement_under n t ≡ true → list_all (statement_under n) (s ∷ t ∷ []) ≡ true
two_closed n s t h k = and_from _ _ h (all-alone (statement_under n) t k)

granted_closed : (i : Item) → contents_closed i ≡ true → list_all (statement_under 0) (granted_statements i) ≡ true
granted_closed (item.Axiom s) h = one_closed 0 s h
granted_closed (item.AxiomScheme s) h = one_closed 0 (implication (conjunction s.premises) s.conclusion) (scheme_granted_closed s h)
granted_closed (item.Primitive x) h = refl
granted_closed (item.Theorem s) h = refl
granted_closed (item.Scheme s) h = refl
granted_closed (item.FunctorMeans d) h =
    let t : (pattern_closed d.pattern ≡ true) × (type_under (length d.pattern.loci) d.ty ≡ true) × (formula_definiens_under (length d.pattern.loci) (length d.pattern.loci + 1) d.definiens ≡ true) = three (pattern_closed d.pattern) (type_under (length d.pattern.loci) d.ty) (formula_definiens_under (length d.pattern.loci) (length d.pattern.loci + 1) d.definiens) h in
    over_all_closed d.pattern.loci (functor_type d ∷ functor_meaning d ∷ []) (pattern_loci d.pattern t.0)
    (two_closed (length d.pattern.loci) (functor_type d) (functor_meaning d) (is_of_type_all term_under (length d.pattern.loci) d.ty (term_on d.pattern.loci d.sym) t.1 (term_on_under d.pattern.loci d.sym)) (functor_means_under (length d.pattern.loci) (term_on d.pattern.loci d.sym) d.ty d.definiens (term_on_under d.pattern.loci d.sym) t.1 t.2))
granted_closed (item.FunctorEquals d) h =
    let t : (pattern_closed d.pattern ≡ true) × (type_under (length d.pattern.loci) d.ty ≡ true) × (term_definiens_under (length d.pattern.loci) d.definiens ≡ true) = three (pattern_closed d.pattern) (type_under (length d.pattern.loci) d.ty) (term_definiens_under (length d.pattern.loci) d.definiens) h in
    over_all_closed d.pattern.loci (equal_functor_type d ∷ equal_functor_meaning d ∷ []) (pattern_loci d.pattern t.0)
    (two_closed (length d.pattern.loci) (equal_functor_type d) (equal_functor_meaning d) (is_of_type_all term_under (length d.pattern.loci) d.ty (term_on d.pattern.loci d.sym) t.1 (term_on_under d.pattern.loci d.sym)) (functor_equals_under (length d.pattern.loci) (term_on d.pattern.loci d.sym) d.definiens (term_on_under d.pattern.loci d.sym) t.2))
granted_closed (item.Predicate d) h =
    let both : (pattern_closed d.pattern ≡ true) × (formula_definiens_under (length d.pattern.loci) (length d.pattern.loci) d.definiens ≡ true) = and_parts (pattern_closed d.pattern) (formula_definiens_under (length d.pattern.loci) (length d.pattern.loci) d.definiens) h in
    over_all_closed d.pattern.loci (predicate_meaning d ∷ []) (pattern_loci d.pattern both.0)
    (one_closed (length d.pattern.loci) (predicate_meaning d) (atom_means_under (length d.pattern.loci) (literal_statement (predicate_on d.pattern.loci d.sym)) d.definiens (literal_statement_all term_under (length d.pattern.loci) (predicate_on d.pattern.loci d.sym) (predicate_on_under d.pattern.loci d.sym)) both.1))
granted_closed (item.Attribute d) h =
    let t : (pattern_closed d.pattern ≡ true) × (is_only d.subject d.pattern.right ≡ true) × (formula_definiens_under (length d.pattern.loci) (length d.pattern.loci) d.definiens ≡ true) = three (pattern_closed d.pattern) (is_only d.subject d.pattern.right) (formula_definiens_under (length d.pattern.loci) (length d.pattern.loci) d.definiens) h in
    over_all_closed d.pattern.loci (attribute_meaning d ∷ []) (pattern_loci d.pattern t.0)
    (one_closed (length d.pattern.loci) (attribute_meaning d) (atom_means_under (length d.pattern.loci) (literal_statement (attribute_on d.pattern.loci d.subject d.sym)) d.definiens (literal_statement_all term_under (length d.pattern.loci) (attribute_on d.pattern.loci d.subject d.sym) (attribute_on_under d.pattern.loci d.subject d.sym)) t.2))
granted_closed (item.ModeMeans d) h =
    let t : (pattern_closed d.pattern ≡ true) × (type_under (length d.pattern.loci) d.ty ≡ true) × (formula_definiens_under (length d.pattern.loci) (length d.pattern.loci + 1) d.definiens ≡ true) = three (pattern_closed d.pattern) (type_under (length d.pattern.loci) d.ty) (formula_definiens_under (length d.pattern.loci) (length d.pattern.loci + 1) d.definiens) h in
    over_all_closed d.pattern.loci (mode_result_type d ∷ mode_meaning d ∷ []) (pattern_loci d.pattern t.0)
    (two_closed (length d.pattern.loci) (mode_result_type d) (mode_meaning d) (mode_type_under (length d.pattern.loci) (mode_on d.pattern.loci d.sym) d.ty (mode_on_under d.pattern.loci d.sym) t.1) (mode_means_under (length d.pattern.loci) (mode_on d.pattern.loci d.sym) d.ty d.definiens (mode_on_under d.pattern.loci d.sym) t.1 t.2))
granted_closed (item.Abbreviation x) h = refl
granted_closed (item.Notation x) h = refl
granted_closed (item.RedefinedFunctor d) h = refl
granted_closed (item.RedefinedMode d) h = refl
granted_closed (item.RedefinedPredicate d) h = refl
granted_closed (item.RedefinedAttribute d) h = refl
granted_closed (item.Property p) h = refl
granted_closed (item.Existential r) h = refl
granted_closed (item.Conditional r) h = refl
granted_closed (item.Functorial r) h = refl
granted_closed (item.Reduction r) h = refl
granted_closed (item.Identification r) h = refl
granted_closed (item.Structure s) h =
    let f : (loci_closed s.loci ≡ true) × (list_all (type_under (length s.loci)) s.ancestors ≡ true) × (list_all (field_under (length s.loci + 1 + length s.fields)) s.fields ≡ true) × (list_all notation_closed s.notations ≡ true) = four (loci_closed s.loci) (list_all (type_under (length s.loci)) s.ancestors) (list_all (field_under (length s.loci + 1 + length s.fields)) s.fields) (list_all notation_closed s.notations) h in
    over_all_closed s.loci (structure_grants s) f.0 (structure_under s f.1 f.2)
granted_closed (item.SetTerm s) h =
    let f : (loci_closed s.loci ≡ true) × (type_under (length s.loci) s.ty ≡ true) × (term_under (length s.loci + 1) s.term ≡ true) × (statement_under (length s.loci + 1) s.formula ≡ true) = four (loci_closed s.loci) (type_under (length s.loci) s.ty) (term_under (length s.loci + 1) s.term) (statement_under (length s.loci + 1) s.formula) h in
    over_all_closed s.loci (set_term_grant s ∷ []) f.0 (one_closed (length s.loci) (set_term_grant s) (set_term_grant_under s f.1 f.2 f.3))
granted_closed (item.Choice c) h =
    let both : (loci_closed c.loci ≡ true) × (type_under (length c.loci) c.ty ≡ true) = and_parts (loci_closed c.loci) (type_under (length c.loci) c.ty) h in
    over_all_closed c.loci (choice_grant c ∷ []) both.0 (one_closed (length c.loci) (choice_grant c) (is_of_type_all term_under (length c.loci) c.ty (term_on c.loci c.sym) both.1 (term_on_under c.loci c.sym)))

owed_closed : (i : Item) → contents_closed i ≡ true → list_all typed_closed (owed_statements i) ≡ true
owed_closed (item.Axiom s) h = refl
owed_closed (item.AxiomScheme s) h = refl
owed_closed (item.Primitive x) h = refl
owed_closed (item.Theorem s) h = and_from _ _ h refl
owed_closed (item.Scheme s) h = and_from _ _ (scheme_owed_closed s h) refl
owed_closed (item.FunctorMeans d) h =
    let t : (pattern_closed d.pattern ≡ true) × (type_under (length d.pattern.loci) d.ty ≡ true) × (formula_definiens_under (length d.pattern.loci) (length d.pattern.loci + 1) d.definiens ≡ true) = three (pattern_closed d.pattern) (type_under (length d.pattern.loci) d.ty) (formula_definiens_under (length d.pattern.loci) (length d.pattern.loci + 1) d.definiens) h in
    conditions_closed d.pattern.loci (item.FunctorMeans d) (pattern_loci d.pattern t.0) (means_thesis_at (length d.pattern.loci) d t.1 t.2)
owed_closed (item.FunctorEquals d) h =
    let t : (pattern_closed d.pattern ≡ true) × (type_under (length d.pattern.loci) d.ty ≡ true) × (term_definiens_under (length d.pattern.loci) d.definiens ≡ true) = three (pattern_closed d.pattern) (type_under (length d.pattern.loci) d.ty) (term_definiens_under (length d.pattern.loci) d.definiens) h in
    conditions_closed d.pattern.loci (item.FunctorEquals d) (pattern_loci d.pattern t.0) (equals_thesis_at (length d.pattern.loci) d t.1 t.2)
owed_closed (item.Predicate d) h =
    let both : (pattern_closed d.pattern ≡ true) × (formula_definiens_under (length d.pattern.loci) (length d.pattern.loci) d.definiens ≡ true) = and_parts (pattern_closed d.pattern) (formula_definiens_under (length d.pattern.loci) (length d.pattern.loci) d.definiens) h in
    conditions_closed d.pattern.loci (item.Predicate d) (pattern_loci d.pattern both.0) (atom_thesis_at (length d.pattern.loci) d.definiens both.1)
owed_closed (item.Attribute d) h =
    let t : (pattern_closed d.pattern ≡ true) × (is_only d.subject d.pattern.right ≡ true) × (formula_definiens_under (length d.pattern.loci) (length d.pattern.loci) d.definiens ≡ true) = three (pattern_closed d.pattern) (is_only d.subject d.pattern.right) (formula_definiens_under (length d.pattern.loci) (length d.pattern.loci) d.definiens) h in
    conditions_closed d.pattern.loci (item.Attribute d) (pattern_loci d.pattern t.0) (atom_thesis_at (length d.pattern.loci) d.definiens t.2)
owed_closed (item.ModeMeans d) h =
    let t : (pattern_closed d.pattern ≡ true) × (type_under (length d.pattern.loci) d.ty ≡ true) × (formula_definiens_under (length d.pattern.loci) (length d.pattern.loci + 1) d.definiens ≡ true) = three (pattern_closed d.pattern) (type_under (length d.pattern.loci) d.ty) (formula_definiens_under (length d.pattern.loci) (length d.pattern.loci + 1) d.definiens) h in
    conditions_closed d.pattern.loci (item.ModeMeans d) (pattern_loci d.pattern t.0) (mode_thesis_at (length d.pattern.loci) d t.1 t.2)
owed_closed (item.Abbreviation x) h = refl
owed_closed (item.Notation x) h = refl
owed_closed (item.RedefinedFunctor d) h =
    let both : (pattern_closed d.pattern ≡ true) × (functor_redefinition_under (length d.pattern.loci) d ≡ true) = and_parts (pattern_closed d.pattern) (functor_redefinition_under (length d.pattern.loci) d) h in
    conditions_closed d.pattern.loci (item.RedefinedFunctor d) (pattern_loci d.pattern both.0) (functor_again_at (length d.pattern.loci) d both.1)
owed_closed (item.RedefinedMode d) h =
    let both : (pattern_closed d.pattern ≡ true) × (mode_redefinition_under (length d.pattern.loci) d ≡ true) = and_parts (pattern_closed d.pattern) (mode_redefinition_under (length d.pattern.loci) d) h in
    conditions_closed d.pattern.loci (item.RedefinedMode d) (pattern_loci d.pattern both.0) (mode_again_at (length d.pattern.loci) d both.1)
owed_closed (item.RedefinedPredicate d) h =
    let both : (pattern_closed d.pattern ≡ true) × (atom_redefinition_under (length d.pattern.loci) d ≡ true) = and_parts (pattern_closed d.pattern) (atom_redefinition_under (length d.pattern.loci) d) h in
    conditions_closed d.pattern.loci (item.RedefinedPredicate d) (pattern_loci d.pattern both.0) (atom_again_at (length d.pattern.loci) d both.1)
owed_closed (item.RedefinedAttribute d) h =
    let both : (pattern_closed d.pattern ≡ true) × (atom_redefinition_under (length d.pattern.loci) d ≡ true) = and_parts (pattern_closed d.pattern) (atom_redefinition_under (length d.pattern.loci) d) h in
    conditions_closed d.pattern.loci (item.RedefinedAttribute d) (pattern_loci d.pattern both.0) (atom_again_at (length d.pattern.loci) d both.1)
owed_closed (item.Property p) h =
    let both : (loci_closed p.loci ≡ true) × (property_form_under (length p.loci) p.form ≡ true) = and_parts (loci_closed p.loci) (property_form_under (length p.loci) p.form) h in
    and_from _ _ (over_closed p.loci (property_statement p.loci p.form) both.0 (property_under p.loci p.form both.0 both.1)) refl
owed_closed (item.Existential r) h =
    let both : (loci_closed r.loci ≡ true) × (existential_under (length r.loci) r ≡ true) = and_parts (loci_closed r.loci) (existential_under (length r.loci) r) h in
    conditions_closed r.loci (item.Existential r) both.0 (existential_at (length r.loci) r both.1)
owed_closed (item.Conditional r) h =
    let both : (loci_closed r.loci ≡ true) × (conditional_under (length r.loci) r ≡ true) = and_parts (loci_closed r.loci) (conditional_under (length r.loci) r) h in
    conditions_closed r.loci (item.Conditional r) both.0 (conditional_at (length r.loci) r both.1)
owed_closed (item.Functorial r) h =
    let both : (loci_closed r.loci ≡ true) × (functorial_under (length r.loci) r ≡ true) = and_parts (loci_closed r.loci) (functorial_under (length r.loci) r) h in
    conditions_closed r.loci (item.Functorial r) both.0 (functorial_at (length r.loci) r both.1)
owed_closed (item.Reduction r) h =
    let t : (loci_closed r.loci ≡ true) × (term_under (length r.loci) r.left ≡ true) × (term_under (length r.loci) r.right ≡ true) = three (loci_closed r.loci) (term_under (length r.loci) r.left) (term_under (length r.loci) r.right) h in
    conditions_closed r.loci (item.Reduction r) t.0 (reduction_at (length r.loci) r (and_from _ _ t.1 t.2))
owed_closed (item.Identification r) h =
    let t : (loci_closed r.loci ≡ true) × (term_under (length r.loci) r.left ≡ true) × (term_under (length r.loci) r.right ≡ true) = three (loci_closed r.loci) (term_under (length r.loci) r.left) (term_under (length r.loci) r.right) h in
    conditions_closed r.loci (item.Identification r) t.0 (identification_at (length r.loci) r (and_from _ _ t.1 t.2))
owed_closed (item.Structure s) h = refl
owed_closed (item.SetTerm s) h =
    let f : (loci_closed s.loci ≡ true) × (type_under (length s.loci) s.ty ≡ true) × (term_under (length s.loci + 1) s.term ≡ true) × (statement_under (length s.loci + 1) s.formula ≡ true) = four (loci_closed s.loci) (type_under (length s.loci) s.ty) (term_under (length s.loci + 1) s.term) (statement_under (length s.loci + 1) s.formula) h in
    conditions_closed s.loci (item.SetTerm s) f.0 (set_term_at (length s.loci) s f.1 f.2 f.3)
owed_closed (item.Choice c) h =
    let both : (loci_closed c.loci ≡ true) × (type_under (length c.loci) c.ty ≡ true) = and_parts (loci_closed c.loci) (type_under (length c.loci) c.ty) h in
    conditions_closed c.loci (item.Choice c) both.0 (choice_at (length c.loci) c both.1)

pub closed_owed : ClosedOwed
unfolding owes
closed_owed i h = all-map typed_closed sequent_closed erased_sequent (owed_statements i) (λ s k. erased_closed s k) (owed_closed i (and_parts (kind_fits i) (contents_closed i) h).1)

pub closed_granted : ClosedGranted
unfolding grants
closed_granted i h = all-map (statement_under 0) (formula_under 0) erase (granted_statements i) (λ s k. erase_all term_under 0 s under_persists k) (granted_closed i (and_parts (kind_fits i) (contents_closed i) h).1)
