-- The theorems and schemes of items.
use Rattle.std.proofs.Common.{◌≡◌, ℕ, ◌+◌, List, length, refl, arith, Bool, true, false}
use Rattle.std.specs.Prelude.{◌&&◌, Option, Some, None}
use Rattle.std.specs.List.{list_all}
use Rattle.std.proofs.lemmas.Bool.{and_parts, and_from}
use Rattle.mz_logic.specs.Term.{Term}
use Rattle.mz_core.specs.Statement.{Statement}
use Rattle.mz_core.specs.TypeStatements.{literal_statement}
use Rattle.mz_core.specs.Closed.{term_under, literal_under, type_under, statement_under, loci_closed}
use Rattle.mz_core.specs.declared.soft_type.SoftType.{SoftType}
use Rattle.mz_core.specs.declared.scheme.Scheme.{Scheme as TheScheme}
use Rattle.mz_core.specs.declared.formula_definiens.FormulaDefiniens.{FormulaDefiniens}
use Rattle.mz_core.specs.declared.redefinition.FunctorMeaning.{FunctorMeaning}
use Rattle.mz_core.specs.declared.redefinition.FunctorMeaning.TheVariants.{Means, Equals}
use Rattle.mz_core.specs.declared.redefinition.AtomRedefinition.{AtomRedefinition}
use Rattle.mz_core.specs.declared.item.Item.{Item}
use Rattle.mz_core.specs.declared.item.Item.TheVariants.{Axiom, AxiomScheme, Primitive, Theorem, Scheme, FunctorMeans, FunctorEquals, Predicate, Attribute, ModeMeans, Abbreviation, Notation, RedefinedFunctor, RedefinedMode, RedefinedPredicate, RedefinedAttribute, Property, Existential, Conditional, Functorial, Reduction, Identification, Structure, SetTerm, Choice}
use Rattle.mz_core.proofs.AllLemmas.{all-append, literal_statement_all}
use Rattle.mz_items.specs.Loci.{over, term_on, predicate_on, attribute_on, mode_on}
use Rattle.mz_items.specs.DefinitionRows.{functor_meaning, equal_functor_meaning, predicate_meaning, attribute_meaning, mode_meaning}
use Rattle.mz_items.specs.RedefinitionRows.{type_or, functor_compatibility, mode_compatibility, atom_compatibility}
use Rattle.mz_items.specs.Items.{over_if_any, definitional_theorem}
use Rattle.mz_items.specs.Closed.{contents_closed, scheme_closed, pattern_closed, is_only, formula_definiens_under, type_if_any_under, functor_meaning_under, formula_meaning_under, functor_redefinition_under, mode_redefinition_under, atom_redefinition_under}
use Rattle.mz_items.proofs.RowLemmas.{under_at, over_under, term_on_under, predicate_on_under, attribute_on_under, mode_on_under, functor_means_under, functor_equals_under, atom_means_under, mode_means_under}
use Rattle.mz_items.proofs.ItemLemmas.{three}
use Rattle.mz_environment.specs.declared.numbering.Numbering.{Numbering}
use Rattle.mz_environment.specs.Cited.{theorem_of, statement_cited, scheme_cited, statements_cited, schemes_cited}
use Rattle.mz_closed_laws.specs.ClosedEnvironment.{cited_statement_closed, cited_scheme_closed}
use Rattle.mz_closed_laws.proofs.ItemProofs.{pattern_loci, means_parts, equals_parts, functor_again_parts, mode_again_parts}
use Rattle.mz_closed_laws.proofs.UnfoldingProofs.{type_or_under}

-- a statement, if any, under no binder
abbrev ClosedIfAny : Option Statement → Type 0
ClosedIfAny None = Unit {0}
ClosedIfAny (Some s) = statement_under 0 s ≡ true

over_closed : (loci : List SoftType) (s : Statement) → loci_closed loci ≡ true → statement_under (length loci) s ≡ true → statement_under 0 (over loci s) ≡ true
over_closed loci s c h =
    let e : length loci ≡ 0 + length loci = omega arith in
    over_under 0 loci s c (under_at (length loci) (0 + length loci) s e h)

-- compatibilities
functor_compatible : (loci : List SoftType) (t : Term) (ty : SoftType) (m : Option FunctorMeaning) → loci_closed loci ≡ true → term_under (length loci) t ≡ true → type_under (length loci) ty ≡ true → functor_meaning_under (length loci) m ≡ true → ClosedIfAny (over_if_any loci (functor_compatibility t ty m))
functor_compatible loci t ty None c h k l = tt
functor_compatible loci t ty (Some (Means d)) c h k l = over_closed loci _ c (functor_means_under (length loci) t ty d h k l)
functor_compatible loci t ty (Some (Equals d)) c h k l = over_closed loci _ c (functor_equals_under (length loci) t d h l)

mode_compatible : (loci : List SoftType) (mode ty : SoftType) (m : Option FormulaDefiniens) → loci_closed loci ≡ true → type_under (length loci) mode ≡ true → type_under (length loci) ty ≡ true → formula_meaning_under (length loci) (length loci + 1) m ≡ true → ClosedIfAny (over_if_any loci (mode_compatibility mode ty m))
mode_compatible loci mode ty None c h k l = tt
mode_compatible loci mode ty (Some d) c h k l = over_closed loci _ c (mode_means_under (length loci) mode ty d h k l)

atom_compatible : (loci : List SoftType) (s : Statement) (m : Option FormulaDefiniens) → loci_closed loci ≡ true → statement_under (length loci) s ≡ true → formula_meaning_under (length loci) (length loci) m ≡ true → ClosedIfAny (over_if_any loci (atom_compatibility s m))
atom_compatible loci s None c h k = tt
atom_compatible loci s (Some d) c h k = over_closed loci _ c (atom_means_under (length loci) s d h k)

atom_again_compatible : (d : AtomRedefinition) → (pattern_closed d.pattern && atom_redefinition_under (length d.pattern.loci) d) ≡ true → ClosedIfAny (over_if_any d.pattern.loci (atom_compatibility (literal_statement d.literal) d.meaning))
atom_again_compatible d h =
    let both : (pattern_closed d.pattern ≡ true) × (atom_redefinition_under (length d.pattern.loci) d ≡ true) = and_parts (pattern_closed d.pattern) (atom_redefinition_under (length d.pattern.loci) d) h in
    let f : (literal_under (length d.pattern.loci) d.literal ≡ true) × (formula_meaning_under (length d.pattern.loci) (length d.pattern.loci) d.meaning ≡ true) = and_parts (literal_under (length d.pattern.loci) d.literal) (formula_meaning_under (length d.pattern.loci) (length d.pattern.loci) d.meaning) both.1 in
    atom_compatible d.pattern.loci (literal_statement d.literal) d.meaning (pattern_loci d.pattern both.0) (literal_statement_all term_under (length d.pattern.loci) d.literal f.0) f.1

-- the theorem of a definition
definition_theorem : (i : Item) → contents_closed i ≡ true → ClosedIfAny (definitional_theorem i)
definition_theorem (Axiom s) h = tt
definition_theorem (AxiomScheme s) h = tt
definition_theorem (Primitive n) h = tt
definition_theorem (Theorem s) h = tt
definition_theorem (Scheme s) h = tt
definition_theorem (FunctorMeans d) h =
    over_closed d.pattern.loci (functor_meaning d) (means_parts d h).0
    (functor_means_under (length d.pattern.loci) (term_on d.pattern.loci d.sym) d.ty d.definiens (term_on_under d.pattern.loci d.sym) (means_parts d h).1 (means_parts d h).2)
definition_theorem (FunctorEquals d) h =
    over_closed d.pattern.loci (equal_functor_meaning d) (equals_parts d h).0
    (functor_equals_under (length d.pattern.loci) (term_on d.pattern.loci d.sym) d.definiens (term_on_under d.pattern.loci d.sym) (equals_parts d h).2)
definition_theorem (Predicate d) h =
    let both : (pattern_closed d.pattern ≡ true) × (formula_definiens_under (length d.pattern.loci) (length d.pattern.loci) d.definiens ≡ true) = and_parts (pattern_closed d.pattern) (formula_definiens_under (length d.pattern.loci) (length d.pattern.loci) d.definiens) h in
    over_closed d.pattern.loci (predicate_meaning d) (pattern_loci d.pattern both.0)
    (atom_means_under (length d.pattern.loci) (literal_statement (predicate_on d.pattern.loci d.sym)) d.definiens (literal_statement_all term_under (length d.pattern.loci) (predicate_on d.pattern.loci d.sym) (predicate_on_under d.pattern.loci d.sym)) both.1)
definition_theorem (Attribute d) h =
    let t : (pattern_closed d.pattern ≡ true) × (is_only d.subject d.pattern.right ≡ true) × (formula_definiens_under (length d.pattern.loci) (length d.pattern.loci) d.definiens ≡ true) = three (pattern_closed d.pattern) (is_only d.subject d.pattern.right) (formula_definiens_under (length d.pattern.loci) (length d.pattern.loci) d.definiens) h in
    over_closed d.pattern.loci (attribute_meaning d) (pattern_loci d.pattern t.0)
    (atom_means_under (length d.pattern.loci) (literal_statement (attribute_on d.pattern.loci d.subject d.sym)) d.definiens (literal_statement_all term_under (length d.pattern.loci) (attribute_on d.pattern.loci d.subject d.sym) (attribute_on_under d.pattern.loci d.subject d.sym)) t.2)
definition_theorem (ModeMeans d) h =
    over_closed d.pattern.loci (mode_meaning d) (means_parts d h).0
    (mode_means_under (length d.pattern.loci) (mode_on d.pattern.loci d.sym) d.ty d.definiens (mode_on_under d.pattern.loci d.sym) (means_parts d h).1 (means_parts d h).2)
definition_theorem (Abbreviation n) h = tt
definition_theorem (Notation n) h = tt
definition_theorem (RedefinedFunctor d) h =
    let both : (pattern_closed d.pattern ≡ true) × (functor_redefinition_under (length d.pattern.loci) d ≡ true) = and_parts (pattern_closed d.pattern) (functor_redefinition_under (length d.pattern.loci) d) h in
    let f : (term_under (length d.pattern.loci) d.term ≡ true) × (type_under (length d.pattern.loci) d.old ≡ true) × (type_if_any_under (length d.pattern.loci) d.ty ≡ true) × (functor_meaning_under (length d.pattern.loci) d.meaning ≡ true) = functor_again_parts (length d.pattern.loci) d both.1 in
    functor_compatible d.pattern.loci d.term (type_or d.ty d.old) d.meaning (pattern_loci d.pattern both.0) f.0 (type_or_under (length d.pattern.loci) d.ty d.old f.2 f.1) f.3
definition_theorem (RedefinedMode d) h =
    let both : (pattern_closed d.pattern ≡ true) × (mode_redefinition_under (length d.pattern.loci) d ≡ true) = and_parts (pattern_closed d.pattern) (mode_redefinition_under (length d.pattern.loci) d) h in
    let f : (type_under (length d.pattern.loci) d.mode ≡ true) × (type_under (length d.pattern.loci) d.old ≡ true) × (type_if_any_under (length d.pattern.loci) d.ty ≡ true) × (formula_meaning_under (length d.pattern.loci) (length d.pattern.loci + 1) d.meaning ≡ true) = mode_again_parts (length d.pattern.loci) d both.1 in
    mode_compatible d.pattern.loci d.mode (type_or d.ty d.old) d.meaning (pattern_loci d.pattern both.0) f.0 (type_or_under (length d.pattern.loci) d.ty d.old f.2 f.1) f.3
definition_theorem (RedefinedPredicate d) h = atom_again_compatible d h
definition_theorem (RedefinedAttribute d) h = atom_again_compatible d h
definition_theorem (Property p) h = tt
definition_theorem (Existential r) h = tt
definition_theorem (Conditional r) h = tt
definition_theorem (Functorial r) h = tt
definition_theorem (Reduction r) h = tt
definition_theorem (Identification r) h = tt
definition_theorem (Structure s) h = tt
definition_theorem (SetTerm s) h = tt
definition_theorem (Choice c) h = tt

theorem_itself : (i : Item) → contents_closed i ≡ true → ClosedIfAny (theorem_of i)
theorem_itself (Axiom s) h = h
theorem_itself (AxiomScheme s) h = tt
theorem_itself (Primitive n) h = tt
theorem_itself (Theorem s) h = h
theorem_itself (Scheme s) h = tt
theorem_itself (FunctorMeans d) h = tt
theorem_itself (FunctorEquals d) h = tt
theorem_itself (Predicate d) h = tt
theorem_itself (Attribute d) h = tt
theorem_itself (ModeMeans d) h = tt
theorem_itself (Abbreviation n) h = tt
theorem_itself (Notation n) h = tt
theorem_itself (RedefinedFunctor d) h = tt
theorem_itself (RedefinedMode d) h = tt
theorem_itself (RedefinedPredicate d) h = tt
theorem_itself (RedefinedAttribute d) h = tt
theorem_itself (Property p) h = tt
theorem_itself (Existential r) h = tt
theorem_itself (Conditional r) h = tt
theorem_itself (Functorial r) h = tt
theorem_itself (Reduction r) h = tt
theorem_itself (Identification r) h = tt
theorem_itself (Structure s) h = tt
theorem_itself (SetTerm s) h = tt
theorem_itself (Choice c) h = tt

cited_closed : (b : Bool) (article above : ℕ) (s : Option Statement) → ClosedIfAny s → list_all cited_statement_closed (statement_cited b article above s) ≡ true
cited_closed b article above None h = refl
cited_closed b article above (Some s) h = and_from _ _ h refl

pub statements_closed : (at : Numbering) (i : Item) → contents_closed i ≡ true → list_all cited_statement_closed (statements_cited at i) ≡ true
statements_closed at i h =
    all-append cited_statement_closed (statement_cited false at.article at.theorems (theorem_of i)) (statement_cited true at.article at.definitions (definitional_theorem i))
    (cited_closed false at.article at.theorems (theorem_of i) (theorem_itself i h))
    (cited_closed true at.article at.definitions (definitional_theorem i) (definition_theorem i h))

-- schemes
one_scheme : (article above : ℕ) (s : TheScheme) → scheme_closed s ≡ true → list_all cited_scheme_closed (scheme_cited article above (Some s)) ≡ true
one_scheme article above s h = and_from _ _ h refl

pub schemes_closed : (at : Numbering) (i : Item) → contents_closed i ≡ true → list_all cited_scheme_closed (schemes_cited at i) ≡ true
schemes_closed at (Axiom s) h = refl
schemes_closed at (AxiomScheme s) h = one_scheme at.article at.schemes s h
schemes_closed at (Primitive n) h = refl
schemes_closed at (Theorem s) h = refl
schemes_closed at (Scheme s) h = one_scheme at.article at.schemes s h
schemes_closed at (FunctorMeans d) h = refl
schemes_closed at (FunctorEquals d) h = refl
schemes_closed at (Predicate d) h = refl
schemes_closed at (Attribute d) h = refl
schemes_closed at (ModeMeans d) h = refl
schemes_closed at (Abbreviation n) h = refl
schemes_closed at (Notation n) h = refl
schemes_closed at (RedefinedFunctor d) h = refl
schemes_closed at (RedefinedMode d) h = refl
schemes_closed at (RedefinedPredicate d) h = refl
schemes_closed at (RedefinedAttribute d) h = refl
schemes_closed at (Property p) h = refl
schemes_closed at (Existential r) h = refl
schemes_closed at (Conditional r) h = refl
schemes_closed at (Functorial r) h = refl
schemes_closed at (Reduction r) h = refl
schemes_closed at (Identification r) h = refl
schemes_closed at (Structure s) h = refl
schemes_closed at (SetTerm s) h = refl
schemes_closed at (Choice c) h = refl
