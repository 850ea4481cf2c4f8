-- The property that a word states of an item without constants and loose indices has none.
use Rattle.std.proofs.Common.{◌≡◌, ◌<◌, ◌+◌, ◌-◌, ℕ, Bool, true, false, List, [], ◌∷◌, ◌++◌, length, refl, subst, arith, Option, Some, None}
use Rattle.std.specs.Prelude.{◌&&◌, nat_lt, if◌then◌else◌}
use Rattle.std.specs.List.{list_all}
use Rattle.std.proofs.lemmas.Bool.{and_parts, and_from, lt-ltb, ltb-true}
use Rattle.mz_logic.specs.Term.{Term}
use Rattle.mz_logic.specs.declared.literal.Literal.{Literal}
use Rattle.mz_core.specs.Closed.{term_under, literal_under, type_under, loci_closed}
use Rattle.mz_core.specs.declared.item.Item.{Item}
use Rattle.mz_core.specs.declared.item.Item.TheVariants as item
use Rattle.mz_core.specs.declared.pattern.Pattern.{Pattern}
use Rattle.mz_core.specs.declared.property.Operation.{Operation}
use Rattle.mz_core.specs.declared.property.Property.{Property as TheProperty}
use Rattle.mz_core.specs.declared.property.PropertyForm.{PropertyForm}
use Rattle.mz_core.specs.declared.property.PropertyForm.TheVariants as form
use Rattle.mz_core.specs.declared.property.Relation.{Relation}
use Rattle.mz_core.specs.declared.property.UnaryOperation.{UnaryOperation}
use Rattle.mz_core.specs.declared.soft_type.SoftType.{SoftType}
use Rattle.mz_items.specs.Closed.{formula_definiens_under, term_definiens_under, is_locus, are_distinct, right_fits, pattern_closed, type_if_any_under, functor_meaning_under, formula_meaning_under, functor_redefinition_under, atom_redefinition_under, relation_under, operation_under, unary_operation_under, property_form_under, property_closed, contents_closed, kind_fits, item_closed}
use Rattle.mz_items.specs.Items.{loci_of}
use Rattle.mz_items.specs.Loci.{term_on, predicate_on}
use Rattle.mz_items.proofs.RowLemmas.{term_on_under, predicate_on_under}
use Rattle.mz_properties.specs.Forms.{of_relation, of_operation, of_unary, index_of, are_alike, relation_at, operation_at, unary_at, form_of_literal, form_of_term, visible_in, property_in, literal_property, term_property, property_of}
use Rattle.mz_tree_part.specs.declared.words.PropertyWord.{PropertyWord}
use Rattle.mz_tree_part.specs.declared.words.PropertyWord.TheVariants as word

abbrev some_of : {X : Type 0} → X → Option X
some_of x = Some x

some-inj : {X : Type 0} (x y : X) → some_of x ≡ some_of y → x ≡ y
some-inj x y e = cc

none_some : {X : Type 0} (x : X) → None ≡ some_of x → ⊥
none_some x e = cc

-- forms

abbrev IsUnder : ℕ → PropertyForm → Type 0
IsUnder n f = property_form_under n f ≡ true

relation_so : (n : ℕ) (w : PropertyWord) (r : Relation) (f : PropertyForm) → relation_under n r ≡ true → of_relation w r ≡ Some f → IsUnder n f
relation_so n word.Reflexivity r f h e = subst (IsUnder n) (some-inj (form.Reflexivity r) f e) h
relation_so n word.Irreflexivity r f h e = subst (IsUnder n) (some-inj (form.Irreflexivity r) f e) h
relation_so n word.Symmetry r f h e = subst (IsUnder n) (some-inj (form.Symmetry r) f e) h
relation_so n word.Asymmetry r f h e = subst (IsUnder n) (some-inj (form.Asymmetry r) f e) h
relation_so n word.Connectedness r f h e = subst (IsUnder n) (some-inj (form.Connectedness r) f e) h
relation_so n word.Commutativity r f h e = absurd (none_some f e)
relation_so n word.Idempotence r f h e = absurd (none_some f e)
relation_so n word.Involutiveness r f h e = absurd (none_some f e)
relation_so n word.Projectivity r f h e = absurd (none_some f e)
relation_so n word.Sethood r f h e = absurd (none_some f e)

operation_so : (n : ℕ) (w : PropertyWord) (o : Operation) (f : PropertyForm) → operation_under n o ≡ true → of_operation w o ≡ Some f → IsUnder n f
operation_so n word.Reflexivity o f h e = absurd (none_some f e)
operation_so n word.Irreflexivity o f h e = absurd (none_some f e)
operation_so n word.Symmetry o f h e = absurd (none_some f e)
operation_so n word.Asymmetry o f h e = absurd (none_some f e)
operation_so n word.Connectedness o f h e = absurd (none_some f e)
operation_so n word.Commutativity o f h e = subst (IsUnder n) (some-inj (form.Commutativity o) f e) h
operation_so n word.Idempotence o f h e = subst (IsUnder n) (some-inj (form.Idempotence o) f e) h
operation_so n word.Involutiveness o f h e = absurd (none_some f e)
operation_so n word.Projectivity o f h e = absurd (none_some f e)
operation_so n word.Sethood o f h e = absurd (none_some f e)

unary_so : (n : ℕ) (w : PropertyWord) (o : UnaryOperation) (f : PropertyForm) → unary_operation_under n o ≡ true → of_unary w o ≡ Some f → IsUnder n f
unary_so n word.Reflexivity o f h e = absurd (none_some f e)
unary_so n word.Irreflexivity o f h e = absurd (none_some f e)
unary_so n word.Symmetry o f h e = absurd (none_some f e)
unary_so n word.Asymmetry o f h e = absurd (none_some f e)
unary_so n word.Connectedness o f h e = absurd (none_some f e)
unary_so n word.Commutativity o f h e = absurd (none_some f e)
unary_so n word.Idempotence o f h e = absurd (none_some f e)
unary_so n word.Involutiveness o f h e = subst (IsUnder n) (some-inj (form.Involutiveness o) f e) h
unary_so n word.Projectivity o f h e = subst (IsUnder n) (some-inj (form.Projectivity o) f e) h
unary_so n word.Sethood o f h e = absurd (none_some f e)

-- their loci

index_within : (count place : ℕ) → nat_lt place count ≡ true → nat_lt (index_of count place) count ≡ true
index_within count place h =
    let lt : place < count = ltb-true place count h in
    let within : count - (place + 1) < count = omega (arith, lt) in
    lt-ltb (count - (place + 1)) count within

two_so : (n : ℕ) (b : Bool) (x y : ℕ) → b ≡ true → nat_lt x n ≡ true → nat_lt y n ≡ true → (b && nat_lt (index_of n x) n && nat_lt (index_of n y) n) ≡ true
two_so n b x y h hx hy =
    and_from (b && nat_lt (index_of n x) n) (nat_lt (index_of n y) n) (and_from b (nat_lt (index_of n x) n) h (index_within n x hx)) (index_within n y hy)

chosen : (b : Bool) (o : Option PropertyForm) (f : PropertyForm) → (if b then o else None) ≡ Some f → o ≡ Some f
chosen true o f e = e
chosen false o f e = absurd (none_some f e)

abbrev AreLoci : ℕ → List ℕ → Type 0
AreLoci n places = list_all (is_locus n) places ≡ true

both_loci : (n x y : ℕ) → AreLoci n (x ∷ y ∷ []) → (nat_lt x n ≡ true) × (nat_lt y n ≡ true)
both_loci n x y h =
    let first : (is_locus n x ≡ true) × (AreLoci n (y ∷ [])) = and_parts (is_locus n x) (list_all (is_locus n) (y ∷ [])) h in
    let second : (is_locus n y ≡ true) × (AreLoci n []) = and_parts (is_locus n y) (list_all (is_locus n) []) first.1 in
    (first.0, second.0)

literal_form_so : (w : PropertyWord) (loci : List SoftType) (l : Literal) (places : List ℕ) (f : PropertyForm) → literal_under (length loci) l ≡ true → AreLoci (length loci) places → form_of_literal w loci l places ≡ Some f → IsUnder (length loci) f
literal_form_so w loci l [] f h k e = absurd (none_some f e)
literal_form_so w loci l (x ∷ []) f h k e = absurd (none_some f e)
literal_form_so w loci l (x ∷ y ∷ []) f h k e =
    let both : (nat_lt x (length loci) ≡ true) × (nat_lt y (length loci) ≡ true) = both_loci (length loci) x y k in
    relation_so (length loci) w (relation_at loci l x y) f (two_so (length loci) (literal_under (length loci) l) x y h both.0 both.1) (chosen (are_alike loci x y) (of_relation w (relation_at loci l x y)) f e)
literal_form_so w loci l (x ∷ y ∷ z ∷ zs) f h k e = absurd (none_some f e)

term_form_so : (w : PropertyWord) (loci : List SoftType) (t : Term) (places : List ℕ) (f : PropertyForm) → term_under (length loci) t ≡ true → AreLoci (length loci) places → form_of_term w loci t places ≡ Some f → IsUnder (length loci) f
term_form_so w loci t [] f h k e = absurd (none_some f e)
term_form_so w loci t (x ∷ []) f h k e =
    let one : (is_locus (length loci) x ≡ true) × (AreLoci (length loci) []) = and_parts (is_locus (length loci) x) (list_all (is_locus (length loci)) []) k in
    unary_so (length loci) w (unary_at loci t x) f (and_from (term_under (length loci) t) (nat_lt (index_of (length loci) x) (length loci)) h (index_within (length loci) x one.0)) e
term_form_so w loci t (x ∷ y ∷ []) f h k e =
    let both : (nat_lt x (length loci) ≡ true) × (nat_lt y (length loci) ≡ true) = both_loci (length loci) x y k in
    operation_so (length loci) w (operation_at loci t x y) f (two_so (length loci) (term_under (length loci) t) x y h both.0 both.1) (chosen (are_alike loci x y) (of_operation w (operation_at loci t x y)) f e)
term_form_so w loci t (x ∷ y ∷ z ∷ zs) f h k e = absurd (none_some f e)

-- properties

pub record IsClosedProperty (loci : List SoftType) (p : TheProperty) : Type 0 where
  pub closed : property_closed p ≡ true
  pub has : p.loci ≡ loci

abbrev made : List SoftType → PropertyForm → TheProperty
made loci f = record { loci = loci; form = f }

by_form : (loci : List SoftType) (o : Option PropertyForm) (p : TheProperty) → loci_closed loci ≡ true → ((f : PropertyForm) → o ≡ Some f → IsUnder (length loci) f) → property_in loci o ≡ Some p → IsClosedProperty loci p
by_form loci None p c each e = absurd (none_some p e)
by_form loci (Some f) p c each e =
    subst (IsClosedProperty loci) (some-inj (made loci f) p e) (record { closed = and_from (loci_closed loci) (property_form_under (length loci) f) c (each f refl); has = refl })

pattern_parts : (p : Pattern) → pattern_closed p ≡ true → (loci_closed p.loci ≡ true) × (AreLoci (length p.loci) (p.left ++ p.right))
pattern_parts p h =
    let loci : Bool = list_all (is_locus (length p.loci)) (p.left ++ p.right) in
    let one : ((loci_closed p.loci && loci && are_distinct (p.left ++ p.right)) ≡ true) × (right_fits p.kind p.right ≡ true) = and_parts (loci_closed p.loci && loci && are_distinct (p.left ++ p.right)) (right_fits p.kind p.right) h in
    let two : ((loci_closed p.loci && loci) ≡ true) × (are_distinct (p.left ++ p.right) ≡ true) = and_parts (loci_closed p.loci && loci) (are_distinct (p.left ++ p.right)) one.0 in
    and_parts (loci_closed p.loci) loci two.0

literal_so : (w : PropertyWord) (p : Pattern) (l : Literal) (y : TheProperty) → pattern_closed p ≡ true → literal_under (length p.loci) l ≡ true → literal_property w p l ≡ Some y → IsClosedProperty p.loci y
literal_so w p l y c h e =
    let parts : (loci_closed p.loci ≡ true) × (AreLoci (length p.loci) (p.left ++ p.right)) = pattern_parts p c in
    by_form p.loci (form_of_literal w p.loci l (visible_in p)) y parts.0 (λ f is. literal_form_so w p.loci l (visible_in p) f h parts.1 is) e

term_so : (w : PropertyWord) (p : Pattern) (t : Term) (y : TheProperty) → pattern_closed p ≡ true → term_under (length p.loci) t ≡ true → term_property w p t ≡ Some y → IsClosedProperty p.loci y
term_so w p t y c h e =
    let parts : (loci_closed p.loci ≡ true) × (AreLoci (length p.loci) (p.left ++ p.right)) = pattern_parts p c in
    by_form p.loci (form_of_term w p.loci t (visible_in p)) y parts.0 (λ f is. term_form_so w p.loci t (visible_in p) f h parts.1 is) e

contents_so : (x : Item) → item_closed x ≡ true → contents_closed x ≡ true
contents_so x h = (and_parts (kind_fits x) (contents_closed x) h).1

first_of_two : (a b : Bool) → (a && b) ≡ true → a ≡ true
first_of_two a b h = (and_parts a b h).0

first_of_three : (a b c : Bool) → (a && b && c) ≡ true → a ≡ true
first_of_three a b c h = first_of_two a b (first_of_two (a && b) c h)

first_of_four : (a b c d : Bool) → (a && b && c && d) ≡ true → a ≡ true
first_of_four a b c d h = first_of_three a b c (first_of_two (a && b && c) d h)

pub property_so : (w : PropertyWord) (x : Item) (y : TheProperty) → item_closed x ≡ true → property_of w x ≡ Some y → IsClosedProperty (loci_of x) y
property_so w (item.Axiom s) y h e = absurd (none_some y e)
property_so w (item.AxiomScheme s) y h e = absurd (none_some y e)
property_so w (item.Primitive n) y h e = absurd (none_some y e)
property_so w (item.Theorem s) y h e = absurd (none_some y e)
property_so w (item.Scheme s) y h e = absurd (none_some y e)
property_so w (item.FunctorMeans d) y h e =
    let c : pattern_closed d.pattern ≡ true =
    first_of_three (pattern_closed d.pattern) (type_under (length d.pattern.loci) d.ty) (formula_definiens_under (length d.pattern.loci) (length d.pattern.loci + 1) d.definiens) (contents_so (item.FunctorMeans d) h) in
    term_so w d.pattern (term_on d.pattern.loci d.sym) y c (term_on_under d.pattern.loci d.sym) e
property_so w (item.FunctorEquals d) y h e =
    let c : pattern_closed d.pattern ≡ true =
    first_of_three (pattern_closed d.pattern) (type_under (length d.pattern.loci) d.ty) (term_definiens_under (length d.pattern.loci) d.definiens) (contents_so (item.FunctorEquals d) h) in
    term_so w d.pattern (term_on d.pattern.loci d.sym) y c (term_on_under d.pattern.loci d.sym) e
property_so w (item.Predicate d) y h e =
    let c : pattern_closed d.pattern ≡ true =
    first_of_two (pattern_closed d.pattern) (formula_definiens_under (length d.pattern.loci) (length d.pattern.loci) d.definiens) (contents_so (item.Predicate d) h) in
    literal_so w d.pattern (predicate_on d.pattern.loci d.sym) y c (predicate_on_under d.pattern.loci d.sym) e
property_so w (item.Attribute d) y h e = absurd (none_some y e)
property_so w (item.ModeMeans d) y h e = absurd (none_some y e)
property_so w (item.Abbreviation n) y h e = absurd (none_some y e)
property_so w (item.Notation n) y h e = absurd (none_some y e)
property_so w (item.RedefinedFunctor d) y h e =
    let n : ℕ = length d.pattern.loci in
    let both : (pattern_closed d.pattern ≡ true) × (functor_redefinition_under n d ≡ true) = and_parts (pattern_closed d.pattern) (functor_redefinition_under n d) (contents_so (item.RedefinedFunctor d) h) in
    term_so w d.pattern d.term y both.0 (first_of_four (term_under n d.term) (type_under n d.old) (type_if_any_under n d.ty) (functor_meaning_under n d.meaning) both.1) e
property_so w (item.RedefinedMode d) y h e = absurd (none_some y e)
property_so w (item.RedefinedPredicate d) y h e =
    let n : ℕ = length d.pattern.loci in
    let both : (pattern_closed d.pattern ≡ true) × (atom_redefinition_under n d ≡ true) = and_parts (pattern_closed d.pattern) (atom_redefinition_under n d) (contents_so (item.RedefinedPredicate d) h) in
    literal_so w d.pattern d.literal y both.0 (first_of_two (literal_under n d.literal) (formula_meaning_under n n d.meaning) both.1) e
property_so w (item.RedefinedAttribute d) y h e = absurd (none_some y e)
property_so w (item.Property p) y h e = absurd (none_some y e)
property_so w (item.Existential r) y h e = absurd (none_some y e)
property_so w (item.Conditional r) y h e = absurd (none_some y e)
property_so w (item.Functorial r) y h e = absurd (none_some y e)
property_so w (item.Reduction r) y h e = absurd (none_some y e)
property_so w (item.Identification r) y h e = absurd (none_some y e)
property_so w (item.Structure s) y h e = absurd (none_some y e)
property_so w (item.SetTerm s) y h e = absurd (none_some y e)
property_so w (item.Choice c) y h e = absurd (none_some y e)
