-- What the items of an article owe and grant.
use Rattle.std.specs.Prelude.{List, [], ◌∷◌, map, flat_map, Option, Some, None}
use Rattle.mz_logic.specs.declared.sequent.Sequent.{Sequent}
use Rattle.mz_logic.specs.Formula.{Formula}
use Rattle.mz_core.specs.Statement.{Statement}
use Rattle.mz_core.specs.Erasure.{erase}
use Rattle.mz_core.specs.TypeStatements.{is_of_type}
use Rattle.mz_core.specs.TypedSequent.{typed_sequent, erased_sequent}
use Rattle.mz_core.specs.declared.typed_sequent.TypedSequent.{TypedSequent}
use Rattle.mz_core.specs.declared.soft_type.SoftType.{SoftType}
use Rattle.mz_core.specs.declared.item.Item.{Item}
use Rattle.mz_core.specs.declared.item.Item.TheVariants.{Axiom, AxiomScheme, Primitive, Theorem, Scheme, FunctorMeans, FunctorEquals, Predicate, Attribute, ModeMeans, Abbreviation, Notation, RedefinedFunctor, RedefinedMode, RedefinedPredicate, RedefinedAttribute, Property, Existential, Conditional, Functorial, Reduction, Identification, Structure, SetTerm, Choice}
use Rattle.mz_items.specs.declared.condition.Condition.{Condition}
use Rattle.mz_items.specs.declared.condition.Condition.TheVariants.{Existence, Uniqueness, Coherence, Compatibility, Consistency, Reducibility}
use Rattle.mz_items.specs.Loci.{over}
use Rattle.mz_items.specs.DefinitionRows.{functor_means_thesis, functor_type, functor_meaning, functor_equals_thesis, equal_functor_type, equal_functor_meaning, atom_thesis, predicate_meaning, attribute_meaning, mode_means_thesis, mode_result_type, mode_meaning}
use Rattle.mz_items.specs.RedefinitionRows.{functor_redefinition_thesis, mode_redefinition_thesis, atom_redefinition_thesis}
use Rattle.mz_items.specs.PropertyRows.{property_statement}
use Rattle.mz_items.specs.RegistrationRows.{existential_thesis, conditional_thesis, functorial_thesis, reduction_thesis, identification_thesis}
use Rattle.mz_items.specs.StructureRows.{structure_grants}
use Rattle.mz_items.specs.SetTermRows.{set_term_thesis, set_term_grant, choice_thesis, choice_grant}
use Rattle.mz_items.specs.SchemeRows.{scheme_sequent, axiom_scheme_grant}

-- nothing is owed by a condition
abbrev pub no_thesis : Condition → Option Statement
no_thesis c = None

-- what a condition of the item states, under the item's loci, where the item owes it
abbrev pub thesis_of : Item → Condition → Option Statement
thesis_of (Axiom s) = no_thesis
thesis_of (AxiomScheme s) = no_thesis
thesis_of (Primitive n) = no_thesis
thesis_of (Theorem s) = no_thesis
thesis_of (Scheme s) = no_thesis
thesis_of (FunctorMeans d) = functor_means_thesis d
thesis_of (FunctorEquals d) = functor_equals_thesis d
thesis_of (Predicate d) = atom_thesis d.definiens
thesis_of (Attribute d) = atom_thesis d.definiens
thesis_of (ModeMeans d) = mode_means_thesis d
thesis_of (Abbreviation n) = no_thesis
thesis_of (Notation n) = no_thesis
thesis_of (RedefinedFunctor d) = functor_redefinition_thesis d
thesis_of (RedefinedMode d) = mode_redefinition_thesis d
thesis_of (RedefinedPredicate d) = atom_redefinition_thesis d
thesis_of (RedefinedAttribute d) = atom_redefinition_thesis d
thesis_of (Property p) = no_thesis
thesis_of (Existential r) = existential_thesis r
thesis_of (Conditional r) = conditional_thesis r
thesis_of (Functorial r) = functorial_thesis r
thesis_of (Reduction r) = reduction_thesis r
thesis_of (Identification r) = identification_thesis r
thesis_of (Structure s) = no_thesis
thesis_of (SetTerm s) = set_term_thesis s
thesis_of (Choice c) = choice_thesis c

-- the statement of a property, under its loci
abbrev pub property_thesis : Item → Option Statement
property_thesis (Axiom s) = None
property_thesis (AxiomScheme s) = None
property_thesis (Primitive n) = None
property_thesis (Theorem s) = None
property_thesis (Scheme s) = None
property_thesis (FunctorMeans d) = None
property_thesis (FunctorEquals d) = None
property_thesis (Predicate d) = None
property_thesis (Attribute d) = None
property_thesis (ModeMeans d) = None
property_thesis (Abbreviation n) = None
property_thesis (Notation n) = None
property_thesis (RedefinedFunctor d) = None
property_thesis (RedefinedMode d) = None
property_thesis (RedefinedPredicate d) = None
property_thesis (RedefinedAttribute d) = None
property_thesis (Property p) = Some (property_statement p.loci p.form)
property_thesis (Existential r) = None
property_thesis (Conditional r) = None
property_thesis (Functorial r) = None
property_thesis (Reduction r) = None
property_thesis (Identification r) = None
property_thesis (Structure s) = None
property_thesis (SetTerm s) = None
property_thesis (Choice c) = None

-- the loci of an item; an item that states a sentence or a scheme has none
abbrev pub loci_of : Item → List SoftType
loci_of (Axiom s) = []
loci_of (AxiomScheme s) = []
loci_of (Primitive n) = n.pattern.loci
loci_of (Theorem s) = []
loci_of (Scheme s) = []
loci_of (FunctorMeans d) = d.pattern.loci
loci_of (FunctorEquals d) = d.pattern.loci
loci_of (Predicate d) = d.pattern.loci
loci_of (Attribute d) = d.pattern.loci
loci_of (ModeMeans d) = d.pattern.loci
loci_of (Abbreviation n) = n.pattern.loci
loci_of (Notation n) = n.pattern.loci
loci_of (RedefinedFunctor d) = d.pattern.loci
loci_of (RedefinedMode d) = d.pattern.loci
loci_of (RedefinedPredicate d) = d.pattern.loci
loci_of (RedefinedAttribute d) = d.pattern.loci
loci_of (Property p) = p.loci
loci_of (Existential r) = r.loci
loci_of (Conditional r) = r.loci
loci_of (Functorial r) = r.loci
loci_of (Reduction r) = r.loci
loci_of (Identification r) = r.loci
loci_of (Structure s) = s.loci
loci_of (SetTerm s) = s.loci
loci_of (Choice c) = c.loci

-- the conditions in the order of their numbers
abbrev pub conditions : List Condition
conditions = Existence ∷ Uniqueness ∷ Coherence ∷ Compatibility ∷ Consistency ∷ Reducibility ∷ []

-- the statement, if any, for all loci
abbrev pub over_if_any : List SoftType → Option Statement → Option Statement
over_if_any loci None = None
over_if_any loci (Some s) = Some (over loci s)

-- what is owed of a thesis, if any: that it holds for all loci
abbrev pub owed_if_any : List SoftType → Option Statement → List TypedSequent
owed_if_any loci None = []
owed_if_any loci (Some s) = typed_sequent [] (over loci s) ∷ []

abbrev pub owed_condition : List SoftType → Item → Condition → List TypedSequent
owed_condition loci item c = owed_if_any loci (thesis_of item c)

abbrev pub owed_conditions : List SoftType → Item → List TypedSequent
owed_conditions loci item = flat_map (owed_condition loci item) conditions

-- what an item owes, as sequents of statements
abbrev pub owed_statements : Item → List TypedSequent
owed_statements (Axiom s) = []
owed_statements (AxiomScheme s) = []
owed_statements (Primitive n) = []
owed_statements (Theorem s) = typed_sequent [] s ∷ []
owed_statements (Scheme s) = scheme_sequent s ∷ []
owed_statements (FunctorMeans d) = owed_conditions d.pattern.loci (FunctorMeans d)
owed_statements (FunctorEquals d) = owed_conditions d.pattern.loci (FunctorEquals d)
owed_statements (Predicate d) = owed_conditions d.pattern.loci (Predicate d)
owed_statements (Attribute d) = owed_conditions d.pattern.loci (Attribute d)
owed_statements (ModeMeans d) = owed_conditions d.pattern.loci (ModeMeans d)
owed_statements (Abbreviation n) = []
owed_statements (Notation n) = []
owed_statements (RedefinedFunctor d) = owed_conditions d.pattern.loci (RedefinedFunctor d)
owed_statements (RedefinedMode d) = owed_conditions d.pattern.loci (RedefinedMode d)
owed_statements (RedefinedPredicate d) = owed_conditions d.pattern.loci (RedefinedPredicate d)
owed_statements (RedefinedAttribute d) = owed_conditions d.pattern.loci (RedefinedAttribute d)
owed_statements (Property p) = typed_sequent [] (over p.loci (property_statement p.loci p.form)) ∷ []
owed_statements (Existential r) = owed_conditions r.loci (Existential r)
owed_statements (Conditional r) = owed_conditions r.loci (Conditional r)
owed_statements (Functorial r) = owed_conditions r.loci (Functorial r)
owed_statements (Reduction r) = owed_conditions r.loci (Reduction r)
owed_statements (Identification r) = owed_conditions r.loci (Identification r)
owed_statements (Structure s) = []
owed_statements (SetTerm s) = owed_conditions s.loci (SetTerm s)
owed_statements (Choice c) = owed_conditions c.loci (Choice c)

-- what an item grants under its loci
abbrev pub granted_bodies : Item → List Statement
granted_bodies (Axiom s) = s ∷ []
granted_bodies (AxiomScheme s) = axiom_scheme_grant s ∷ []
granted_bodies (Primitive n) = []
granted_bodies (Theorem s) = []
granted_bodies (Scheme s) = []
granted_bodies (FunctorMeans d) = functor_type d ∷ functor_meaning d ∷ []
granted_bodies (FunctorEquals d) = equal_functor_type d ∷ equal_functor_meaning d ∷ []
granted_bodies (Predicate d) = predicate_meaning d ∷ []
granted_bodies (Attribute d) = attribute_meaning d ∷ []
granted_bodies (ModeMeans d) = mode_result_type d ∷ mode_meaning d ∷ []
granted_bodies (Abbreviation n) = []
granted_bodies (Notation n) = []
granted_bodies (RedefinedFunctor d) = []
granted_bodies (RedefinedMode d) = []
granted_bodies (RedefinedPredicate d) = []
granted_bodies (RedefinedAttribute d) = []
granted_bodies (Property p) = []
granted_bodies (Existential r) = []
granted_bodies (Conditional r) = []
granted_bodies (Functorial r) = []
granted_bodies (Reduction r) = []
granted_bodies (Identification r) = []
granted_bodies (Structure s) = structure_grants s
granted_bodies (SetTerm s) = set_term_grant s ∷ []
granted_bodies (Choice c) = choice_grant c ∷ []

-- what an item grants, as statements
abbrev pub granted_statements : Item → List Statement
granted_statements item = map (over (loci_of item)) (granted_bodies item)

-- what can be cited of a definition: its last grant, or the compatibility of a redefinition
abbrev pub definitional_theorem : Item → Option Statement
definitional_theorem (Axiom s) = None
definitional_theorem (AxiomScheme s) = None
definitional_theorem (Primitive n) = None
definitional_theorem (Theorem s) = None
definitional_theorem (Scheme s) = None
definitional_theorem (FunctorMeans d) = Some (over d.pattern.loci (functor_meaning d))
definitional_theorem (FunctorEquals d) = Some (over d.pattern.loci (equal_functor_meaning d))
definitional_theorem (Predicate d) = Some (over d.pattern.loci (predicate_meaning d))
definitional_theorem (Attribute d) = Some (over d.pattern.loci (attribute_meaning d))
definitional_theorem (ModeMeans d) = Some (over d.pattern.loci (mode_meaning d))
definitional_theorem (Abbreviation n) = None
definitional_theorem (Notation n) = None
definitional_theorem (RedefinedFunctor d) = over_if_any d.pattern.loci (functor_redefinition_thesis d Compatibility)
definitional_theorem (RedefinedMode d) = over_if_any d.pattern.loci (mode_redefinition_thesis d Compatibility)
definitional_theorem (RedefinedPredicate d) = over_if_any d.pattern.loci (atom_redefinition_thesis d Compatibility)
definitional_theorem (RedefinedAttribute d) = over_if_any d.pattern.loci (atom_redefinition_thesis d Compatibility)
definitional_theorem (Property p) = None
definitional_theorem (Existential r) = None
definitional_theorem (Conditional r) = None
definitional_theorem (Functorial r) = None
definitional_theorem (Reduction r) = None
definitional_theorem (Identification r) = None
definitional_theorem (Structure s) = None
definitional_theorem (SetTerm s) = None
definitional_theorem (Choice c) = None

-- the sequents that an item owes are the erasures of these
unfoldable pub owes : Item → List Sequent
owes item = map erased_sequent (owed_statements item)

-- the formulas that an item grants are the erasures of these
unfoldable pub grants : Item → List Formula
grants item = map erase (granted_statements item)
