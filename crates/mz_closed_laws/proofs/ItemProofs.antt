-- The clauses of items, exports and letters.
use Rattle.std.proofs.Common.{◌≡◌, ℕ, ◌+◌, List, [], ◌++◌, length, refl, Bool, true}
use Rattle.std.specs.Prelude.{◌&&◌}
use Rattle.std.specs.List.{list_all}
use Rattle.std.proofs.lemmas.Bool.{and_parts}
use Rattle.mz_core.specs.Closed.{term_under, type_under, loci_closed}
use Rattle.mz_core.specs.declared.pattern.Pattern.{Pattern}
use Rattle.mz_core.specs.declared.structure.Structure.{Structure as TheStructure}
use Rattle.mz_core.specs.declared.definition.EqualsDefinition.{EqualsDefinition}
use Rattle.mz_core.specs.declared.definition.MeansDefinition.{MeansDefinition}
use Rattle.mz_core.specs.declared.redefinition.FunctorRedefinition.{FunctorRedefinition}
use Rattle.mz_core.specs.declared.redefinition.ModeRedefinition.{ModeRedefinition}
use Rattle.mz_core.specs.declared.registration.EquationRegistration.{EquationRegistration}
use Rattle.mz_core.specs.declared.scheme.SchemeLetter.{SchemeLetter}
use Rattle.mz_core.specs.declared.scheme.SchemeLetter.TheVariants.{OfFunctor, OfPredicate}
use Rattle.mz_core.specs.declared.item.Item.{Item}
use Rattle.mz_core.specs.declared.item.Item.TheVariants.{Axiom, AxiomScheme, Primitive, Theorem, Scheme, FunctorMeans, FunctorEquals, Predicate, Attribute, ModeMeans, Abbreviation, Notation, RedefinedFunctor, RedefinedMode, RedefinedPredicate, RedefinedAttribute, Property, Existential, Conditional, Functorial, Reduction, Identification, Structure, SetTerm, Choice}
use Rattle.mz_core.proofs.AllLemmas.{all-append}
use Rattle.mz_items.specs.Loci.{term_on, mode_on}
use Rattle.mz_items.specs.Closed.{item_closed, kind_fits, contents_closed, pattern_closed, is_locus, are_distinct, right_fits, formula_definiens_under, term_definiens_under, type_if_any_under, functor_meaning_under, formula_meaning_under, functor_redefinition_under, mode_redefinition_under, property_form_under, conditional_under, functorial_under, field_under, letter_closed, notation_closed}
use Rattle.mz_items.proofs.RowLemmas.{term_on_under, mode_on_under}
use Rattle.mz_items.proofs.ItemLemmas.{three}
use Rattle.mz_clauses.specs.declared.clause_groups.ClauseGroup.{ClauseGroup}
use Rattle.mz_clauses.specs.declared.item_groups.ItemGroups.{ItemGroups}
use Rattle.mz_clauses.specs.StructureClauses.{part_groups, aggregate_groups}
use Rattle.mz_clauses.specs.Clauses.{groups_of, typing_clauses, further_clauses, equality_clauses, item_clauses, clauses_of, letter_groups, letter_clauses}
use Rattle.mz_closed_laws.specs.ClosedClauses.{clause_closed}
use Rattle.mz_closed_laws.specs.ClosedLaws.{TypingLaw, FurtherLaw, EqualityLaw, ItemLaw, ExportLaw, LetterLaw}
use Rattle.mz_closed_laws.proofs.LiteralLemmas.{all-flat}
use Rattle.mz_closed_laws.proofs.GroupLemmas.{group_closed, groups_closed}
use Rattle.mz_closed_laws.proofs.DefinitionProofs.{functor_type_closed, new_type_closed, mode_parent_closed, new_parent_closed, equation_closed, equality_closed, functorial_closed, conditional_closed}
use Rattle.mz_closed_laws.proofs.StructureProofs.{part_closed, aggregate_closed, strict_closed}
use Rattle.mz_closed_laws.proofs.PropertyProofs.{property_closed}

-- parts of what is closed
pub four : (a b c d : Bool) → (a && b && c && d) ≡ true → (a ≡ true) × (b ≡ true) × (c ≡ true) × (d ≡ true)
four a b c d h =
    let outer : ((a && b && c) ≡ true) × (d ≡ true) = and_parts (a && b && c) d h in
    let inner : (a ≡ true) × (b ≡ true) × (c ≡ true) = three a b c outer.0 in
    (inner.0, inner.1, inner.2, outer.1)

pub pattern_loci : (p : Pattern) → pattern_closed p ≡ true → loci_closed p.loci ≡ true
pattern_loci p h =
    (four (loci_closed p.loci) (list_all (is_locus (length p.loci)) (p.left ++ p.right)) (are_distinct (p.left ++ p.right)) (right_fits p.kind p.right) h).0

pub means_parts : (d : MeansDefinition) → (pattern_closed d.pattern && type_under (length d.pattern.loci) d.ty && formula_definiens_under (length d.pattern.loci) (length d.pattern.loci + 1) d.definiens) ≡ true → (loci_closed d.pattern.loci ≡ true) × (type_under (length d.pattern.loci) d.ty ≡ true) × (formula_definiens_under (length d.pattern.loci) (length d.pattern.loci + 1) d.definiens ≡ true)
means_parts d h =
    let t : (pattern_closed d.pattern ≡ true) × (type_under (length d.pattern.loci) d.ty ≡ true) × (formula_definiens_under (length d.pattern.loci) (length d.pattern.loci + 1) d.definiens ≡ true) = three (pattern_closed d.pattern) (type_under (length d.pattern.loci) d.ty) (formula_definiens_under (length d.pattern.loci) (length d.pattern.loci + 1) d.definiens) h in
    (pattern_loci d.pattern t.0, t.1, t.2)

pub equals_parts : (d : EqualsDefinition) → (pattern_closed d.pattern && type_under (length d.pattern.loci) d.ty && term_definiens_under (length d.pattern.loci) d.definiens) ≡ true → (loci_closed d.pattern.loci ≡ true) × (type_under (length d.pattern.loci) d.ty ≡ true) × (term_definiens_under (length d.pattern.loci) d.definiens ≡ true)
equals_parts d h =
    let t : (pattern_closed d.pattern ≡ true) × (type_under (length d.pattern.loci) d.ty ≡ true) × (term_definiens_under (length d.pattern.loci) d.definiens ≡ true) = three (pattern_closed d.pattern) (type_under (length d.pattern.loci) d.ty) (term_definiens_under (length d.pattern.loci) d.definiens) h in
    (pattern_loci d.pattern t.0, t.1, t.2)

pub functor_again_parts : (n : ℕ) (d : FunctorRedefinition) → functor_redefinition_under n d ≡ true → (term_under n d.term ≡ true) × (type_under n d.old ≡ true) × (type_if_any_under n d.ty ≡ true) × (functor_meaning_under n d.meaning ≡ true)
functor_again_parts n d h = four (term_under n d.term) (type_under n d.old) (type_if_any_under n d.ty) (functor_meaning_under n d.meaning) h

pub mode_again_parts : (n : ℕ) (d : ModeRedefinition) → mode_redefinition_under n d ≡ true → (type_under n d.mode ≡ true) × (type_under n d.old ≡ true) × (type_if_any_under n d.ty ≡ true) × (formula_meaning_under n (n + 1) d.meaning ≡ true)
mode_again_parts n d h = four (type_under n d.mode) (type_under n d.old) (type_if_any_under n d.ty) (formula_meaning_under n (n + 1) d.meaning) h

-- the groups of an item
record ClosedGroups (gs : ItemGroups) : Type 0 where
  pub typing : list_all group_closed gs.typing ≡ true
  pub further : list_all group_closed gs.further ≡ true
  pub equalities : list_all group_closed gs.equalities ≡ true

typing_closed : (gs : List ClauseGroup) → list_all group_closed gs ≡ true → ClosedGroups (record { typing = gs; further = []; equalities = [] })
typing_closed gs h = record { typing = h; further = refl; equalities = refl }

further_closed : (gs : List ClauseGroup) → list_all group_closed gs ≡ true → ClosedGroups (record { typing = []; further = gs; equalities = [] })
further_closed gs h = record { typing = refl; further = h; equalities = refl }

none_closed : ClosedGroups (record { typing = []; further = []; equalities = [] })
none_closed = record { typing = refl; further = refl; equalities = refl }

registered_closed : (r : EquationRegistration) → (loci_closed r.loci && term_under (length r.loci) r.left && term_under (length r.loci) r.right) ≡ true → ClosedGroups (groups_of (Reduction r))
registered_closed r h =
    let t : (loci_closed r.loci ≡ true) × (term_under (length r.loci) r.left ≡ true) × (term_under (length r.loci) r.right ≡ true) = three (loci_closed r.loci) (term_under (length r.loci) r.left) (term_under (length r.loci) r.right) h in
    further_closed _ (equation_closed r.loci r.left r.right t.0 t.1 t.2)

structure_closed : (s : TheStructure) → (loci_closed s.loci && list_all (type_under (length s.loci)) s.ancestors && list_all (field_under (length s.loci + 1 + length s.fields)) s.fields && list_all notation_closed s.notations) ≡ true → ClosedGroups (groups_of (Structure s))
structure_closed s h =
    let f : (loci_closed s.loci ≡ true) × (list_all (type_under (length s.loci)) s.ancestors ≡ true) × (list_all (field_under (length s.loci + 1 + length s.fields)) s.fields ≡ true) × (list_all notation_closed s.notations ≡ true) = four (loci_closed s.loci) (list_all (type_under (length s.loci)) s.ancestors) (list_all (field_under (length s.loci + 1 + length s.fields)) s.fields) (list_all notation_closed s.notations) h in
    record { typing = all-append group_closed (part_groups s) (aggregate_groups s) (part_closed s f.0 f.1 f.2) (aggregate_closed s f.0 f.2); further = strict_closed s f.0; equalities = refl }

item_groups_closed : (i : Item) → contents_closed i ≡ true → ClosedGroups (groups_of i)
item_groups_closed (Axiom s) h = none_closed
item_groups_closed (AxiomScheme s) h = none_closed
item_groups_closed (Primitive x) h = none_closed
item_groups_closed (Theorem s) h = none_closed
item_groups_closed (Scheme s) h = none_closed
item_groups_closed (FunctorMeans d) h =
    let t : (loci_closed d.pattern.loci ≡ true) × (type_under (length d.pattern.loci) d.ty ≡ true) × (formula_definiens_under (length d.pattern.loci) (length d.pattern.loci + 1) d.definiens ≡ true) = means_parts d h in
    typing_closed _ (functor_type_closed d.pattern.loci (term_on d.pattern.loci d.sym) d.ty t.0 (term_on_under d.pattern.loci d.sym) t.1)
item_groups_closed (FunctorEquals d) h =
    let t : (loci_closed d.pattern.loci ≡ true) × (type_under (length d.pattern.loci) d.ty ≡ true) × (term_definiens_under (length d.pattern.loci) d.definiens ≡ true) = equals_parts d h in
    record { typing = functor_type_closed d.pattern.loci (term_on d.pattern.loci d.sym) d.ty t.0 (term_on_under d.pattern.loci d.sym) t.1; further = refl; equalities = equality_closed d.pattern.loci (term_on d.pattern.loci d.sym) d.definiens t.0 (term_on_under d.pattern.loci d.sym) t.2 }
item_groups_closed (Predicate d) h = none_closed
item_groups_closed (Attribute d) h = none_closed
item_groups_closed (ModeMeans d) h =
    let t : (loci_closed d.pattern.loci ≡ true) × (type_under (length d.pattern.loci) d.ty ≡ true) × (formula_definiens_under (length d.pattern.loci) (length d.pattern.loci + 1) d.definiens ≡ true) = means_parts d h in
    typing_closed _ (mode_parent_closed d.pattern.loci (mode_on d.pattern.loci d.sym) d.ty t.0 (mode_on_under d.pattern.loci d.sym) t.1)
item_groups_closed (Abbreviation x) h = none_closed
item_groups_closed (Notation x) h = none_closed
item_groups_closed (RedefinedFunctor d) h =
    let both : (pattern_closed d.pattern ≡ true) × (functor_redefinition_under (length d.pattern.loci) d ≡ true) = and_parts (pattern_closed d.pattern) (functor_redefinition_under (length d.pattern.loci) d) h in
    let f : (term_under (length d.pattern.loci) d.term ≡ true) × (type_under (length d.pattern.loci) d.old ≡ true) × (type_if_any_under (length d.pattern.loci) d.ty ≡ true) × (functor_meaning_under (length d.pattern.loci) d.meaning ≡ true) = functor_again_parts (length d.pattern.loci) d both.1 in
    typing_closed _ (new_type_closed d.pattern.loci d.term d.ty (pattern_loci d.pattern both.0) f.0 f.2)
item_groups_closed (RedefinedMode d) h =
    let both : (pattern_closed d.pattern ≡ true) × (mode_redefinition_under (length d.pattern.loci) d ≡ true) = and_parts (pattern_closed d.pattern) (mode_redefinition_under (length d.pattern.loci) d) h in
    let f : (type_under (length d.pattern.loci) d.mode ≡ true) × (type_under (length d.pattern.loci) d.old ≡ true) × (type_if_any_under (length d.pattern.loci) d.ty ≡ true) × (formula_meaning_under (length d.pattern.loci) (length d.pattern.loci + 1) d.meaning ≡ true) = mode_again_parts (length d.pattern.loci) d both.1 in
    typing_closed _ (new_parent_closed d.pattern.loci d.mode d.ty (pattern_loci d.pattern both.0) f.0 f.2)
item_groups_closed (RedefinedPredicate d) h = none_closed
item_groups_closed (RedefinedAttribute d) h = none_closed
item_groups_closed (Property p) h =
    let both : (loci_closed p.loci ≡ true) × (property_form_under (length p.loci) p.form ≡ true) = and_parts (loci_closed p.loci) (property_form_under (length p.loci) p.form) h in
    further_closed _ (property_closed p.loci p.form both.0 both.1)
item_groups_closed (Existential r) h = none_closed
item_groups_closed (Conditional r) h =
    let both : (loci_closed r.loci ≡ true) × (conditional_under (length r.loci) r ≡ true) = and_parts (loci_closed r.loci) (conditional_under (length r.loci) r) h in
    typing_closed _ (conditional_closed r both.0 both.1)
item_groups_closed (Functorial r) h =
    let both : (loci_closed r.loci ≡ true) × (functorial_under (length r.loci) r ≡ true) = and_parts (loci_closed r.loci) (functorial_under (length r.loci) r) h in
    typing_closed _ (functorial_closed r both.0 both.1)
item_groups_closed (Reduction r) h = registered_closed r h
item_groups_closed (Identification r) h = registered_closed r h
item_groups_closed (Structure s) h = structure_closed s h
item_groups_closed (SetTerm s) h = none_closed
item_groups_closed (Choice c) h =
    let both : (loci_closed c.loci ≡ true) × (type_under (length c.loci) c.ty ≡ true) = and_parts (loci_closed c.loci) (type_under (length c.loci) c.ty) h in
    typing_closed _ (functor_type_closed c.loci (term_on c.loci c.sym) c.ty both.0 (term_on_under c.loci c.sym) both.1)

pub contents : (i : Item) → item_closed i ≡ true → contents_closed i ≡ true
contents i h = (and_parts (kind_fits i) (contents_closed i) h).1

-- laws
pub typing_law : TypingLaw
typing_law i h = groups_closed (groups_of i).typing (item_groups_closed i (contents i h)).typing

pub further_law : FurtherLaw
further_law i h = groups_closed (groups_of i).further (item_groups_closed i (contents i h)).further

pub equality_law : EqualityLaw
equality_law i h = groups_closed (groups_of i).equalities (item_groups_closed i (contents i h)).equalities

pub item_law : ItemLaw
unfolding item_clauses
item_law i h =
    all-append clause_closed (typing_clauses i ++ further_clauses i) (equality_clauses i) (all-append clause_closed (typing_clauses i) (further_clauses i) (typing_law i h) (further_law i h)) (equality_law i h)

pub export_law : ExportLaw
unfolding clauses_of
export_law e h = all-flat item_closed clause_closed item_clauses e.items item_law h

letter_groups_closed : (l : SchemeLetter) → letter_closed l ≡ true → list_all group_closed (letter_groups l) ≡ true
letter_groups_closed (OfFunctor s places ty) h =
    let both : (loci_closed places ≡ true) × (type_under (length places) ty ≡ true) = and_parts (loci_closed places) (type_under (length places) ty) h in
    functor_type_closed places (term_on places s) ty both.0 (term_on_under places s) both.1
letter_groups_closed (OfPredicate s places) h = refl

pub letter_law : LetterLaw
unfolding letter_clauses
letter_law l h = groups_closed (letter_groups l) (letter_groups_closed l h)
