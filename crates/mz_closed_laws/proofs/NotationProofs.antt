-- The notations of items.
use Rattle.std.proofs.Common.{◌≡◌, ◌+◌, [], ◌∷◌, length, refl, true}
use Rattle.std.specs.Prelude.{nat_eq, not}
use Rattle.std.specs.List.{list_all}
use Rattle.std.proofs.lemmas.Bool.{and_parts, and_from}
use Rattle.mz_logic.specs.declared.kind.Kind.{Kind}
use Rattle.mz_logic.specs.declared.kind.Kind.TheVariants as kind
use Rattle.mz_logic.specs.Sym.{kind_number}
use Rattle.mz_logic.specs.Term.{Term}
use Rattle.mz_logic.specs.declared.literal.Literal.{Literal}
use Rattle.mz_core.specs.Hidden.{is_of_any_object}
use Rattle.mz_core.specs.Closed.{literal_under, type_under, loci_closed}
use Rattle.mz_core.specs.declared.soft_type.SoftType.{SoftType}
use Rattle.mz_core.specs.declared.pattern.Pattern.{Pattern}
use Rattle.mz_core.specs.declared.notation.Meaning.{Meaning}
use Rattle.mz_core.specs.declared.notation.Meaning.TheVariants.{OfTerm, OfLiteral, OfType}
use Rattle.mz_core.specs.declared.item.Item.{Item}
use Rattle.mz_core.specs.declared.item.Item.TheVariants.{Axiom, AxiomScheme, Primitive, Theorem, Scheme, FunctorMeans, FunctorEquals, Predicate, Attribute, ModeMeans, Abbreviation, Notation, RedefinedFunctor, RedefinedMode, RedefinedPredicate, RedefinedAttribute, Property, Existential, Conditional, Functorial, Reduction, Identification, Structure, SetTerm, Choice}
use Rattle.mz_items.specs.Loci.{term_on, predicate_on, attribute_on, mode_on}
use Rattle.mz_items.specs.Exports.{notation_of, notations_of}
use Rattle.mz_items.specs.Closed.{item_closed, is_of_kind, kind_fits, contents_closed, meaning_under, meaning_fits, pattern_closed, is_only, formula_definiens_under, term_definiens_under, formula_meaning_under, functor_redefinition_under, mode_redefinition_under, atom_redefinition_under, field_under, notation_closed}
use Rattle.mz_items.proofs.RowLemmas.{term_on_under, predicate_on_under, attribute_on_under, mode_on_under}
use Rattle.mz_items.proofs.ItemLemmas.{three}
use Rattle.mz_closed_laws.proofs.ItemProofs.{four, functor_again_parts, mode_again_parts}

-- what the kinds of patterns read to
term_fits : (k : Kind) (t : Term) → nat_eq (kind_number k) (kind_number kind.Functor) ≡ true → meaning_fits k (OfTerm t) ≡ true
term_fits kind.Mode t h = h
term_fits kind.Structure t h = h
term_fits kind.Attribute t h = h
term_fits kind.Functor t h = refl
term_fits kind.Selector t h = refl
term_fits kind.Aggregate t h = refl
term_fits kind.Predicate t h = h
term_fits kind.LetterFunctor t h = h
term_fits kind.LetterPredicate t h = h

type_fits : (k : Kind) (ty : SoftType) → nat_eq (kind_number k) (kind_number kind.Mode) ≡ true → meaning_fits k (OfType ty) ≡ true
type_fits kind.Mode ty h = refl
type_fits kind.Structure ty h = refl
type_fits kind.Attribute ty h = h
type_fits kind.Functor ty h = h
type_fits kind.Selector ty h = h
type_fits kind.Aggregate ty h = h
type_fits kind.Predicate ty h = h
type_fits kind.LetterFunctor ty h = h
type_fits kind.LetterPredicate ty h = h

predicate_fits : (k : Kind) (l : Literal) → nat_eq (kind_number k) (kind_number kind.Predicate) ≡ true → meaning_fits k (OfLiteral l) ≡ true
predicate_fits kind.Mode l h = h
predicate_fits kind.Structure l h = h
predicate_fits kind.Attribute l h = refl
predicate_fits kind.Functor l h = h
predicate_fits kind.Selector l h = h
predicate_fits kind.Aggregate l h = h
predicate_fits kind.Predicate l h = refl
predicate_fits kind.LetterFunctor l h = h
predicate_fits kind.LetterPredicate l h = h

attribute_fits : (k : Kind) (l : Literal) → nat_eq (kind_number k) (kind_number kind.Attribute) ≡ true → meaning_fits k (OfLiteral l) ≡ true
attribute_fits kind.Mode l h = h
attribute_fits kind.Structure l h = h
attribute_fits kind.Attribute l h = refl
attribute_fits kind.Functor l h = h
attribute_fits kind.Selector l h = h
attribute_fits kind.Aggregate l h = h
attribute_fits kind.Predicate l h = refl
attribute_fits kind.LetterFunctor l h = h
attribute_fits kind.LetterPredicate l h = h

one_notation : (p : Pattern) (m : Meaning) → pattern_closed p ≡ true → meaning_under (length p.loci) m ≡ true → meaning_fits p.kind m ≡ true → list_all notation_closed (notation_of p m ∷ []) ≡ true
one_notation p m hp hm hf = and_from _ _ (and_from _ _ (and_from _ _ hp hm) hf) refl

-- the notations of an item whose kind and contents are as they should be
notations_from : (i : Item) → kind_fits i ≡ true → contents_closed i ≡ true → list_all notation_closed (notations_of i) ≡ true
notations_from (Axiom s) k h = refl
notations_from (AxiomScheme s) k h = refl
notations_from (Primitive x) k h = and_from _ _ h refl
notations_from (Theorem s) k h = refl
notations_from (Scheme s) k h = refl
notations_from (FunctorMeans d) k h =
    let p : pattern_closed d.pattern ≡ true = (three (pattern_closed d.pattern) (type_under (length d.pattern.loci) d.ty) (formula_definiens_under (length d.pattern.loci) (length d.pattern.loci + 1) d.definiens) h).0 in
    one_notation d.pattern (OfTerm (term_on d.pattern.loci d.sym)) p (term_on_under d.pattern.loci d.sym) (term_fits d.pattern.kind (term_on d.pattern.loci d.sym) k)
notations_from (FunctorEquals d) k h =
    let p : pattern_closed d.pattern ≡ true = (three (pattern_closed d.pattern) (type_under (length d.pattern.loci) d.ty) (term_definiens_under (length d.pattern.loci) d.definiens) h).0 in
    one_notation d.pattern (OfTerm (term_on d.pattern.loci d.sym)) p (term_on_under d.pattern.loci d.sym) (term_fits d.pattern.kind (term_on d.pattern.loci d.sym) k)
notations_from (Predicate d) k h =
    let p : pattern_closed d.pattern ≡ true = (and_parts (pattern_closed d.pattern) (formula_definiens_under (length d.pattern.loci) (length d.pattern.loci) d.definiens) h).0 in
    one_notation d.pattern (OfLiteral (predicate_on d.pattern.loci d.sym)) p (predicate_on_under d.pattern.loci d.sym) (predicate_fits d.pattern.kind (predicate_on d.pattern.loci d.sym) k)
notations_from (Attribute d) k h =
    let p : pattern_closed d.pattern ≡ true = (three (pattern_closed d.pattern) (is_only d.subject d.pattern.right) (formula_definiens_under (length d.pattern.loci) (length d.pattern.loci) d.definiens) h).0 in
    one_notation d.pattern (OfLiteral (attribute_on d.pattern.loci d.subject d.sym)) p (attribute_on_under d.pattern.loci d.subject d.sym) (attribute_fits d.pattern.kind (attribute_on d.pattern.loci d.subject d.sym) k)
notations_from (ModeMeans d) k h =
    let p : pattern_closed d.pattern ≡ true = (three (pattern_closed d.pattern) (type_under (length d.pattern.loci) d.ty) (formula_definiens_under (length d.pattern.loci) (length d.pattern.loci + 1) d.definiens) h).0 in
    one_notation d.pattern (OfType (mode_on d.pattern.loci d.sym)) p (mode_on_under d.pattern.loci d.sym) (type_fits d.pattern.kind (mode_on d.pattern.loci d.sym) (and_parts (is_of_kind kind.Mode d.pattern) (not (is_of_any_object d.sym)) k).0)
notations_from (Abbreviation x) k h = and_from _ _ h refl
notations_from (Notation x) k h = and_from _ _ h refl
notations_from (RedefinedFunctor d) k h =
    let both : (pattern_closed d.pattern ≡ true) × (functor_redefinition_under (length d.pattern.loci) d ≡ true) = and_parts (pattern_closed d.pattern) (functor_redefinition_under (length d.pattern.loci) d) h in
    one_notation d.pattern (OfTerm d.term) both.0 (functor_again_parts (length d.pattern.loci) d both.1).0 (term_fits d.pattern.kind d.term k)
notations_from (RedefinedMode d) k h =
    let both : (pattern_closed d.pattern ≡ true) × (mode_redefinition_under (length d.pattern.loci) d ≡ true) = and_parts (pattern_closed d.pattern) (mode_redefinition_under (length d.pattern.loci) d) h in
    one_notation d.pattern (OfType d.mode) both.0 (mode_again_parts (length d.pattern.loci) d both.1).0 (type_fits d.pattern.kind d.mode k)
notations_from (RedefinedPredicate d) k h =
    let both : (pattern_closed d.pattern ≡ true) × (atom_redefinition_under (length d.pattern.loci) d ≡ true) = and_parts (pattern_closed d.pattern) (atom_redefinition_under (length d.pattern.loci) d) h in
    one_notation d.pattern (OfLiteral d.literal) both.0 (and_parts (literal_under (length d.pattern.loci) d.literal) (formula_meaning_under (length d.pattern.loci) (length d.pattern.loci) d.meaning) both.1).0 (predicate_fits d.pattern.kind d.literal k)
notations_from (RedefinedAttribute d) k h =
    let both : (pattern_closed d.pattern ≡ true) × (atom_redefinition_under (length d.pattern.loci) d ≡ true) = and_parts (pattern_closed d.pattern) (atom_redefinition_under (length d.pattern.loci) d) h in
    one_notation d.pattern (OfLiteral d.literal) both.0 (and_parts (literal_under (length d.pattern.loci) d.literal) (formula_meaning_under (length d.pattern.loci) (length d.pattern.loci) d.meaning) both.1).0 (attribute_fits d.pattern.kind d.literal k)
notations_from (Property p) k h = refl
notations_from (Existential r) k h = refl
notations_from (Conditional r) k h = refl
notations_from (Functorial r) k h = refl
notations_from (Reduction r) k h = refl
notations_from (Identification r) k h = refl
notations_from (Structure s) k h =
    (four (loci_closed s.loci) (list_all (type_under (length s.loci)) s.ancestors) (list_all (field_under (length s.loci + 1 + length s.fields)) s.fields) (list_all notation_closed s.notations) h).3
notations_from (SetTerm s) k h = refl
notations_from (Choice c) k h = refl

pub notations_closed : (i : Item) → item_closed i ≡ true → list_all notation_closed (notations_of i) ≡ true
notations_closed i h =
    let both : (kind_fits i ≡ true) × (contents_closed i ≡ true) = and_parts (kind_fits i) (contents_closed i) h in
    notations_from i both.0 both.1
