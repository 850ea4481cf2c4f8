-- Items without constants and loose indices.
use Rattle.std.specs.Prelude.{ℕ, ◌+◌, Bool, true, false, ◌&&◌, not, nat_lt, nat_eq, if◌then◌else◌, List, [], ◌∷◌, ◌++◌, length, Option, Some, None}
use Rattle.std.specs.List.{list_all}
use Rattle.mz_logic.specs.declared.kind.Kind.{Kind}
use Rattle.mz_logic.specs.declared.kind.Kind.TheVariants.{Mode, Structure, Attribute, Functor, Selector, Aggregate, Predicate, LetterFunctor, LetterPredicate}
use Rattle.mz_logic.specs.Sym.{kind_number}
use Rattle.mz_logic.specs.Term.{Term}
use Rattle.mz_logic.specs.declared.literal.Literal.{Literal}
use Rattle.mz_core.specs.Hidden.{is_of_any_object}
use Rattle.mz_core.specs.Statement.{Statement}
use Rattle.mz_core.specs.declared.adjective.Adjective.{Adjective}
use Rattle.mz_core.specs.declared.radix.Radix.{Radix}
use Rattle.mz_core.specs.declared.soft_type.SoftType.{SoftType}
use Rattle.mz_core.specs.declared.structure.Field.{Field}
use Rattle.mz_core.specs.declared.formula_definiens.FormulaCase.{FormulaCase}
use Rattle.mz_core.specs.declared.term_definiens.TermCase.{TermCase}
use Rattle.mz_core.specs.declared.formula_definiens.FormulaDefiniens.{FormulaDefiniens}
use Rattle.mz_core.specs.declared.formula_definiens.FormulaDefiniens.TheVariants as formula_definiens
use Rattle.mz_core.specs.declared.term_definiens.TermDefiniens.{TermDefiniens}
use Rattle.mz_core.specs.declared.term_definiens.TermDefiniens.TheVariants as term_definiens
use Rattle.mz_core.specs.declared.pattern.Pattern.{Pattern}
use Rattle.mz_core.specs.declared.notation.Meaning.{Meaning}
use Rattle.mz_core.specs.declared.notation.Meaning.TheVariants.{OfTerm, OfLiteral, OfType}
use Rattle.mz_core.specs.declared.notation.Notation.{Notation}
use Rattle.mz_core.specs.declared.scheme.Scheme.{Scheme}
use Rattle.mz_core.specs.declared.scheme.SchemeLetter.{SchemeLetter}
use Rattle.mz_core.specs.declared.scheme.SchemeLetter.TheVariants.{OfFunctor, OfPredicate}
use Rattle.mz_core.specs.declared.definition.MeansDefinition.{MeansDefinition}
use Rattle.mz_core.specs.declared.definition.EqualsDefinition.{EqualsDefinition}
use Rattle.mz_core.specs.declared.definition.AtomDefinition.{AtomDefinition}
use Rattle.mz_core.specs.declared.definition.AttributeDefinition.{AttributeDefinition}
use Rattle.mz_core.specs.declared.redefinition.FunctorMeaning.{FunctorMeaning}
use Rattle.mz_core.specs.declared.redefinition.FunctorMeaning.TheVariants.{Means, Equals}
use Rattle.mz_core.specs.declared.redefinition.FunctorRedefinition.{FunctorRedefinition}
use Rattle.mz_core.specs.declared.redefinition.ModeRedefinition.{ModeRedefinition}
use Rattle.mz_core.specs.declared.redefinition.AtomRedefinition.{AtomRedefinition}
use Rattle.mz_core.specs.declared.property.Relation.{Relation}
use Rattle.mz_core.specs.declared.property.Operation.{Operation}
use Rattle.mz_core.specs.declared.property.UnaryOperation.{UnaryOperation}
use Rattle.mz_core.specs.declared.property.PropertyForm.{PropertyForm}
use Rattle.mz_core.specs.declared.property.PropertyForm.TheVariants.{Reflexivity, Irreflexivity, Symmetry, Asymmetry, Connectedness, Commutativity, Idempotence, Involutiveness, Projectivity, Sethood}
use Rattle.mz_core.specs.declared.property.Property.{Property}
use Rattle.mz_core.specs.declared.registration.ExistentialRegistration.{ExistentialRegistration}
use Rattle.mz_core.specs.declared.registration.ConditionalRegistration.{ConditionalRegistration}
use Rattle.mz_core.specs.declared.registration.FunctorialRegistration.{FunctorialRegistration}
use Rattle.mz_core.specs.declared.registration.EquationRegistration.{EquationRegistration}
use Rattle.mz_core.specs.declared.structure.Structure.{Structure as TheStructure}
use Rattle.mz_core.specs.declared.set_term.SetTerm.{SetTerm}
use Rattle.mz_core.specs.declared.set_term.Choice.{Choice}
use Rattle.mz_core.specs.declared.item.Item.{Item}
use Rattle.mz_core.specs.declared.item.Item.TheVariants as item
use Rattle.mz_core.specs.Closed.{term_under, literal_under, adjective_under, type_under, statement_under, loci_closed}

-- conditions stand under n binders, definientia under `inner`
abbrev pub formula_case_under : ℕ → ℕ → FormulaCase → Bool
formula_case_under n inner c = statement_under n c.condition && statement_under inner c.definiens

abbrev pub formula_definiens_under : ℕ → ℕ → FormulaDefiniens → Bool
formula_definiens_under n inner (formula_definiens.Plain s) = statement_under inner s
formula_definiens_under n inner (formula_definiens.Cases cs) = list_all (formula_case_under n inner) cs
formula_definiens_under n inner (formula_definiens.CasesOtherwise cs s) =
    list_all (formula_case_under n inner) cs && statement_under inner s

abbrev pub term_case_under : ℕ → TermCase → Bool
term_case_under n c = statement_under n c.condition && term_under n c.definiens

abbrev pub term_definiens_under : ℕ → TermDefiniens → Bool
term_definiens_under n (term_definiens.Plain t) = term_under n t
term_definiens_under n (term_definiens.Cases cs) = list_all (term_case_under n) cs
term_definiens_under n (term_definiens.CasesOtherwise cs t) = list_all (term_case_under n) cs && term_under n t

abbrev pub meaning_under : ℕ → Meaning → Bool
meaning_under n (OfTerm t) = term_under n t
meaning_under n (OfLiteral l) = literal_under n l
meaning_under n (OfType ty) = type_under n ty

-- the place is one of n loci
abbrev pub is_locus : ℕ → ℕ → Bool
is_locus n place = nat_lt place n

abbrev pub differs : ℕ → ℕ → Bool
differs k j = if nat_eq k j then false else true

-- no place occurs twice
abbrev pub are_distinct : List ℕ → Bool
are_distinct [] = true
are_distinct (k ∷ ks) = list_all (differs k) ks && are_distinct ks

abbrev pub is_single : List ℕ → Bool
is_single [] = false
is_single (k ∷ []) = true
is_single (k ∷ j ∷ ks) = false

abbrev pub is_only : ℕ → List ℕ → Bool
is_only subject [] = false
is_only subject (k ∷ []) = nat_eq k subject
is_only subject (k ∷ j ∷ ks) = false

-- an attribute's pattern has its subject, alone, on the right
abbrev pub right_fits : Kind → List ℕ → Bool
right_fits Mode ks = true
right_fits Structure ks = true
right_fits Attribute ks = is_single ks
right_fits Functor ks = true
right_fits Selector ks = true
right_fits Aggregate ks = true
right_fits Predicate ks = true
right_fits LetterFunctor ks = true
right_fits LetterPredicate ks = true

-- the visible loci are loci of the pattern, each at most once
abbrev pub pattern_closed : Pattern → Bool
pattern_closed p =
    loci_closed p.loci && list_all (is_locus (length p.loci)) (p.left ++ p.right) && are_distinct (p.left ++ p.right) && right_fits p.kind p.right

abbrev pub is_of_kind : Kind → Pattern → Bool
is_of_kind kind p = nat_eq (kind_number p.kind) (kind_number kind)

abbrev pub is_term : Meaning → Bool
is_term (OfTerm t) = true
is_term (OfLiteral l) = false
is_term (OfType ty) = false

abbrev pub is_literal : Meaning → Bool
is_literal (OfTerm t) = false
is_literal (OfLiteral l) = true
is_literal (OfType ty) = false

abbrev pub is_type : Meaning → Bool
is_type (OfTerm t) = false
is_type (OfLiteral l) = false
is_type (OfType ty) = true

-- what a pattern of the kind reads to; letters have no patterns
abbrev pub meaning_fits : Kind → Meaning → Bool
meaning_fits Mode m = is_type m
meaning_fits Structure m = is_type m
meaning_fits Attribute m = is_literal m
meaning_fits Functor m = is_term m
meaning_fits Selector m = is_term m
meaning_fits Aggregate m = is_term m
meaning_fits Predicate m = is_literal m
meaning_fits LetterFunctor m = false
meaning_fits LetterPredicate m = false

abbrev pub notation_closed : Notation → Bool
notation_closed x =
    pattern_closed x.pattern && meaning_under (length x.pattern.loci) x.meaning && meaning_fits x.pattern.kind x.meaning

abbrev pub letter_closed : SchemeLetter → Bool
letter_closed (OfFunctor s places ty) = loci_closed places && type_under (length places) ty
letter_closed (OfPredicate s places) = loci_closed places

abbrev pub scheme_closed : Scheme → Bool
scheme_closed s =
    list_all letter_closed s.letters && list_all (statement_under 0) s.premises && statement_under 0 s.conclusion

-- after `means` of a functor or a mode the definiens stands under one more binder, that of `it`
abbrev pub means_closed : MeansDefinition → Bool
means_closed d =
    pattern_closed d.pattern && type_under (length d.pattern.loci) d.ty && formula_definiens_under (length d.pattern.loci) (length d.pattern.loci + 1) d.definiens

abbrev pub equals_closed : EqualsDefinition → Bool
equals_closed d =
    pattern_closed d.pattern && type_under (length d.pattern.loci) d.ty && term_definiens_under (length d.pattern.loci) d.definiens

abbrev pub atom_closed : AtomDefinition → Bool
atom_closed d =
    pattern_closed d.pattern && formula_definiens_under (length d.pattern.loci) (length d.pattern.loci) d.definiens

abbrev pub attribute_closed : AttributeDefinition → Bool
attribute_closed d =
    pattern_closed d.pattern && is_only d.subject d.pattern.right && formula_definiens_under (length d.pattern.loci) (length d.pattern.loci) d.definiens

abbrev pub type_if_any_under : ℕ → Option SoftType → Bool
type_if_any_under n None = true
type_if_any_under n (Some ty) = type_under n ty

abbrev pub functor_meaning_under : ℕ → Option FunctorMeaning → Bool
functor_meaning_under n None = true
functor_meaning_under n (Some (Means d)) = formula_definiens_under n (n + 1) d
functor_meaning_under n (Some (Equals d)) = term_definiens_under n d

abbrev pub formula_meaning_under : ℕ → ℕ → Option FormulaDefiniens → Bool
formula_meaning_under n inner None = true
formula_meaning_under n inner (Some d) = formula_definiens_under n inner d

abbrev pub functor_redefinition_under : ℕ → FunctorRedefinition → Bool
functor_redefinition_under n d =
    term_under n d.term && type_under n d.old && type_if_any_under n d.ty && functor_meaning_under n d.meaning

abbrev pub mode_redefinition_under : ℕ → ModeRedefinition → Bool
mode_redefinition_under n d =
    type_under n d.mode && type_under n d.old && type_if_any_under n d.ty && formula_meaning_under n (n + 1) d.meaning

abbrev pub atom_redefinition_under : ℕ → AtomRedefinition → Bool
atom_redefinition_under n d = literal_under n d.literal && formula_meaning_under n n d.meaning

-- the places of a property are indices of its loci
abbrev pub relation_under : ℕ → Relation → Bool
relation_under n r = literal_under n r.literal && nat_lt r.left n && nat_lt r.right n

abbrev pub operation_under : ℕ → Operation → Bool
operation_under n o = term_under n o.term && nat_lt o.left n && nat_lt o.right n

abbrev pub unary_operation_under : ℕ → UnaryOperation → Bool
unary_operation_under n o = term_under n o.term && nat_lt o.place n

abbrev pub property_form_under : ℕ → PropertyForm → Bool
property_form_under n (Reflexivity r) = relation_under n r
property_form_under n (Irreflexivity r) = relation_under n r
property_form_under n (Symmetry r) = relation_under n r
property_form_under n (Asymmetry r) = relation_under n r
property_form_under n (Connectedness r) = relation_under n r
property_form_under n (Commutativity o) = operation_under n o
property_form_under n (Idempotence o) = operation_under n o
property_form_under n (Involutiveness o) = unary_operation_under n o
property_form_under n (Projectivity o) = unary_operation_under n o
property_form_under n (Sethood s) = true

abbrev pub property_closed : Property → Bool
property_closed p = loci_closed p.loci && property_form_under (length p.loci) p.form

abbrev pub existential_under : ℕ → ExistentialRegistration → Bool
existential_under n r = list_all (adjective_under n) r.adjectives && type_under n r.ty

abbrev pub conditional_under : ℕ → ConditionalRegistration → Bool
conditional_under n r = list_all (adjective_under n) r.from && list_all (adjective_under n) r.to && type_under n r.ty

abbrev pub functorial_under : ℕ → FunctorialRegistration → Bool
functorial_under n r = term_under n r.term && list_all (adjective_under n) r.adjectives && type_if_any_under n r.ty

abbrev pub equation_closed : EquationRegistration → Bool
equation_closed r = loci_closed r.loci && term_under (length r.loci) r.left && term_under (length r.loci) r.right

-- a field's type stands under the loci, the object and one binder for each field
abbrev pub field_under : ℕ → Field → Bool
field_under n f = type_under n f.ty

abbrev pub structure_closed : TheStructure → Bool
structure_closed s =
    loci_closed s.loci && list_all (type_under (length s.loci)) s.ancestors && list_all (field_under (length s.loci + 1 + length s.fields)) s.fields && list_all notation_closed s.notations

-- the term and the formula of a set term stand under one more binder, that of its variable
abbrev pub set_term_closed : SetTerm → Bool
set_term_closed s =
    loci_closed s.loci && type_under (length s.loci) s.ty && term_under (length s.loci + 1) s.term && statement_under (length s.loci + 1) s.formula

abbrev pub choice_closed : Choice → Bool
choice_closed c = loci_closed c.loci && type_under (length c.loci) c.ty

-- the parts of the item have no constant, and each index in them belongs to a quantifier, a variable, a locus or
-- an argument's place of the item
abbrev pub contents_closed : Item → Bool
contents_closed (item.Axiom s) = statement_under 0 s
contents_closed (item.AxiomScheme s) = scheme_closed s
contents_closed (item.Primitive x) = notation_closed x
contents_closed (item.Theorem s) = statement_under 0 s
contents_closed (item.Scheme s) = scheme_closed s
contents_closed (item.FunctorMeans d) = means_closed d
contents_closed (item.FunctorEquals d) = equals_closed d
contents_closed (item.Predicate d) = atom_closed d
contents_closed (item.Attribute d) = attribute_closed d
contents_closed (item.ModeMeans d) = means_closed d
contents_closed (item.Abbreviation x) = notation_closed x
contents_closed (item.Notation x) = notation_closed x
contents_closed (item.RedefinedFunctor d) =
    pattern_closed d.pattern && functor_redefinition_under (length d.pattern.loci) d
contents_closed (item.RedefinedMode d) = pattern_closed d.pattern && mode_redefinition_under (length d.pattern.loci) d
contents_closed (item.RedefinedPredicate d) =
    pattern_closed d.pattern && atom_redefinition_under (length d.pattern.loci) d
contents_closed (item.RedefinedAttribute d) =
    pattern_closed d.pattern && atom_redefinition_under (length d.pattern.loci) d
contents_closed (item.Property p) = property_closed p
contents_closed (item.Existential r) = loci_closed r.loci && existential_under (length r.loci) r
contents_closed (item.Conditional r) = loci_closed r.loci && conditional_under (length r.loci) r
contents_closed (item.Functorial r) = loci_closed r.loci && functorial_under (length r.loci) r
contents_closed (item.Reduction r) = equation_closed r
contents_closed (item.Identification r) = equation_closed r
contents_closed (item.Structure s) = structure_closed s
contents_closed (item.SetTerm s) = set_term_closed s
contents_closed (item.Choice c) = choice_closed c

-- the pattern of a definition has the kind of what is defined, and no mode or structure is `object` or `set` anew
abbrev pub kind_fits : Item → Bool
kind_fits (item.Axiom s) = true
kind_fits (item.AxiomScheme s) = true
kind_fits (item.Primitive x) = true
kind_fits (item.Theorem s) = true
kind_fits (item.Scheme s) = true
kind_fits (item.FunctorMeans d) = is_of_kind Functor d.pattern
kind_fits (item.FunctorEquals d) = is_of_kind Functor d.pattern
kind_fits (item.Predicate d) = is_of_kind Predicate d.pattern
kind_fits (item.Attribute d) = is_of_kind Attribute d.pattern
kind_fits (item.ModeMeans d) = is_of_kind Mode d.pattern && not (is_of_any_object d.sym)
kind_fits (item.Abbreviation x) = is_of_kind Mode x.pattern
kind_fits (item.Notation x) = true
kind_fits (item.RedefinedFunctor d) = is_of_kind Functor d.pattern
kind_fits (item.RedefinedMode d) = is_of_kind Mode d.pattern
kind_fits (item.RedefinedPredicate d) = is_of_kind Predicate d.pattern
kind_fits (item.RedefinedAttribute d) = is_of_kind Attribute d.pattern
kind_fits (item.Property p) = true
kind_fits (item.Existential r) = true
kind_fits (item.Conditional r) = true
kind_fits (item.Functorial r) = true
kind_fits (item.Reduction r) = true
kind_fits (item.Identification r) = true
kind_fits (item.Structure s) = not (is_of_any_object s.sym)
kind_fits (item.SetTerm s) = true
kind_fits (item.Choice c) = true

-- the item has no constant and no loose index, its pattern is of its kind, and it doesn't make `object` or `set` anew
abbrev pub item_closed : Item → Bool
item_closed i = kind_fits i && contents_closed i
