-- The item of a structure has no constant and no loose index.
use Rattle.std.proofs.Common.{◌≡◌, ◌≤◌, ◌<◌, ◌+◌, ℕ, zero, suc, Bool, true, false, List, [], ◌∷◌, ◌++◌, map, length, length-append, refl, sym, ap, ◌∙◌, subst, arith, Option, None, Some}
use Rattle.std.specs.Prelude.{◌&&◌, ◌||◌, nat_lt, nat_eq, not, if◌then◌else◌}
use Rattle.std.specs.List.{list_all}
use Rattle.std.proofs.lemmas.Bool.{and_parts, and_from, lt-ltb}
use Rattle.mz_logic.specs.Term.{Term, Bound, App, terms_of}
use Rattle.mz_logic.specs.declared.kind.Kind.{Kind}
use Rattle.mz_logic.specs.declared.kind.Kind.TheVariants as kind
use Rattle.mz_logic.specs.declared.sym.Sym.{Sym}
use Rattle.mz_core.specs.Closed.{term_under, type_under, loci_under, loci_closed}
use Rattle.mz_core.specs.declared.item.Item.TheVariants as item
use Rattle.mz_core.specs.declared.notation.Meaning.{Meaning}
use Rattle.mz_core.specs.declared.notation.Meaning.TheVariants.{OfTerm, OfLiteral, OfType}
use Rattle.mz_core.specs.declared.notation.Notation.{Notation}
use Rattle.mz_core.specs.declared.pattern.Pattern.{Pattern}
use Rattle.mz_core.specs.declared.soft_type.SoftType.{SoftType}
use Rattle.mz_core.specs.declared.structure.Field.{Field}
use Rattle.mz_core.specs.declared.structure.Structure.{Structure}
use Rattle.mz_core.proofs.AllLemmas.{all-append, all-map}
use Rattle.mz_choice_laws.specs.Known.{type_known}
use Rattle.mz_items.specs.Closed.{is_locus, are_distinct, right_fits, pattern_closed, meaning_under, meaning_fits, notation_closed, field_under, structure_closed, item_closed}
use Rattle.mz_items.specs.Exports.{notation_of}
use Rattle.mz_items.specs.Loci.{mode_on, predicate_on}
use Rattle.mz_items.proofs.RowLemmas.{loci_variables, mode_on_under, predicate_on_under}
use Rattle.mz_loci.specs.Loci.{type_over_loci}
use Rattle.mz_loci_laws.proofs.OverProofs.{between, type_under_loci}
use Rattle.mz_patterns.specs.Patterns.{visible, pattern}
use Rattle.mz_patterns.proofs.VisibleProofs.{AreGood}
use Rattle.mz_patterns.specs.declared.visible.Visible.{Visible}
use Rattle.mz_field_items.specs.Fields.{inner_count, selector_of, selectors_of, field_of, fields_of}
use Rattle.mz_field_items.specs.declared.fields.ReadField.{ReadField}
use Rattle.mz_structure_items.specs.Aggregates.{are_closed, aggregate_notation, if_closed, aggregate_loci, field_places, aggregate_of, kept_order, aggregate_notations}
use Rattle.mz_structure_items.specs.Items.{with_object, pattern_of_object, structure_notation, strict_word, strict_notation, selected_inside, selector_notation, selector_notations, ancestor_types, structure_with, half_structure, structure_notations, whole_structure}
use Rattle.mz_structure_items.specs.declared.symbols.StructureSymbols.{StructureSymbols}
use Rattle.mz_structure_laws.proofs.KnownProofs.{field_type_under}

-- one locus more
loci_and : (n : ℕ) (tys : List SoftType) (ty : SoftType) → loci_under n tys ≡ true → type_under (n + length tys) ty ≡ true → loci_under n (tys ++ ty ∷ []) ≡ true
loci_and n [] ty h k = let e : n + 0 ≡ n = omega arith in and_from (type_under n ty) true (subst (λ m. type_under m ty ≡ true) e k) refl
loci_and n (u ∷ tys) ty h k =
    let both : (type_under n u ≡ true) × (loci_under (n + 1) tys ≡ true) = and_parts (type_under n u) (loci_under (n + 1) tys) h in
    let e : n + suc (length tys) ≡ (n + 1) + length tys = omega arith in
    and_from _ _ both.0 (loci_and (n + 1) tys ty both.1 (subst (λ m. type_under m ty ≡ true) e k))

object_closed : (loci : List SoftType) (s : Sym) → loci_closed loci ≡ true → loci_closed (with_object loci s) ≡ true
object_closed loci s h =
    let e : length loci ≡ 0 + length loci = omega arith in
    loci_and 0 loci (mode_on loci s) h (subst (λ n. type_under n (mode_on loci s) ≡ true) e (mode_on_under loci s))

long : (loci : List SoftType) (s : Sym) → length (with_object loci s) ≡ length loci + 1
long loci s = length-append loci (mode_on loci s ∷ [])

-- patterns with the object alone
object_pattern : (k : Kind) (symbol : List ℕ) (loci : List SoftType) (s : Sym) → right_fits k (length loci ∷ []) ≡ true → loci_closed loci ≡ true → pattern_closed (pattern_of_object k symbol loci s) ≡ true
object_pattern k symbol loci s fits h =
    let lt : length loci < length loci + 1 = omega arith in
    let within : list_all (is_locus (length (with_object loci s))) (length loci ∷ []) ≡ true =
    subst (λ n. list_all (is_locus n) (length loci ∷ []) ≡ true) (sym (long loci s)) (and_from (nat_lt (length loci) (length loci + 1)) true (lt-ltb (length loci) (length loci + 1) lt) refl) in
    and_from (loci_closed (with_object loci s) && list_all (is_locus (length (with_object loci s))) (length loci ∷ []) && are_distinct (length loci ∷ [])) (right_fits k (length loci ∷ []))
    (and_from (loci_closed (with_object loci s) && list_all (is_locus (length (with_object loci s))) (length loci ∷ [])) (are_distinct (length loci ∷ []))
    (and_from (loci_closed (with_object loci s)) (list_all (is_locus (length (with_object loci s))) (length loci ∷ [])) (object_closed loci s h) within) refl) fits

notation_so : (p : Pattern) (m : Meaning) → pattern_closed p ≡ true → meaning_under (length p.loci) m ≡ true → meaning_fits p.kind m ≡ true → notation_closed (notation_of p m) ≡ true
notation_so p m h k l = and_from (pattern_closed p && meaning_under (length p.loci) m) (meaning_fits p.kind m) (and_from (pattern_closed p) (meaning_under (length p.loci) m) h k) l

selected_under : (loci : List SoftType) (s selector : Sym) → term_under (length (with_object loci s)) (selected_inside selector) ≡ true
selected_under loci s selector =
    let lt : 0 < length loci + 1 = omega arith in
    subst (λ n. term_under n (selected_inside selector) ≡ true) (sym (long loci s)) (and_from (nat_lt 0 (length loci + 1)) true (lt-ltb 0 (length loci + 1) lt) refl)

selector_closed : (loci : List SoftType) (s : Sym) (f : ReadField) → loci_closed loci ≡ true → notation_closed (selector_notation loci s f) ≡ true
selector_closed loci s f h =
    notation_so (pattern_of_object kind.Selector f.name loci s) (OfTerm (selected_inside f.selector)) (object_pattern kind.Selector f.name loci s refl h) (selected_under loci s f.selector) refl

pub selectors_closed : (loci : List SoftType) (s : Sym) (fs : List ReadField) → loci_closed loci ≡ true → list_all notation_closed (selector_notations loci s fs) ≡ true
selectors_closed loci s [] h = refl
selectors_closed loci s (f ∷ fs) h = and_from (notation_closed (selector_notation loci s f)) (list_all notation_closed (selector_notations loci s fs)) (selector_closed loci s f h) (selectors_closed loci s fs h)

strict_closed : (loci : List SoftType) (syms : StructureSymbols) → loci_closed loci ≡ true → notation_closed (strict_notation loci syms) ≡ true
strict_closed loci syms h =
    notation_so (pattern_of_object kind.Attribute strict_word loci syms.sym) (OfLiteral (predicate_on (with_object loci syms.sym) syms.strict)) (object_pattern kind.Attribute strict_word loci syms.sym refl h)
    (predicate_on_under (with_object loci syms.sym) syms.strict) refl

-- the structure's own
own_closed : (symbol : List ℕ) (loci : List SoftType) (s : Sym) (places : List ℕ) → loci_closed loci ≡ true → list_all (is_locus (length loci)) places ≡ true → are_distinct places ≡ true → notation_closed (structure_notation symbol loci s places) ≡ true
own_closed symbol loci s places h within distinct =
    let p : Pattern = pattern kind.Structure symbol loci (visible [] places) in
    notation_so p (OfType (mode_on loci s))
    (and_from (loci_closed loci && list_all (is_locus (length loci)) places && are_distinct places) true
    (and_from (loci_closed loci && list_all (is_locus (length loci)) places) (are_distinct places) (and_from (loci_closed loci) (list_all (is_locus (length loci)) places) h within) distinct) refl)
    (mode_on_under loci s) refl

-- the aggregate's
closed_so : (symbol : List ℕ) (loci : List SoftType) (places : List ℕ) (t : Term) → are_closed loci places t ≡ true → notation_closed (aggregate_notation symbol loci places t) ≡ true
closed_so symbol loci places t h =
    let a : (loci_closed loci ≡ true) × ((list_all (is_locus (length loci)) places && (are_distinct places && term_under (length loci) t)) ≡ true) = and_parts (loci_closed loci) (list_all (is_locus (length loci)) places && (are_distinct places && term_under (length loci) t)) h in
    let b : (list_all (is_locus (length loci)) places ≡ true) × ((are_distinct places && term_under (length loci) t) ≡ true) = and_parts (list_all (is_locus (length loci)) places) (are_distinct places && term_under (length loci) t) a.1 in
    let c : (are_distinct places ≡ true) × (term_under (length loci) t ≡ true) = and_parts (are_distinct places) (term_under (length loci) t) b.1 in
    let p : Pattern = pattern kind.Aggregate symbol loci (visible [] places) in
    notation_so p (OfTerm t)
    (and_from (loci_closed loci && list_all (is_locus (length loci)) places && are_distinct places) true
    (and_from (loci_closed loci && list_all (is_locus (length loci)) places) (are_distinct places) (and_from (loci_closed loci) (list_all (is_locus (length loci)) places) a.0 b.0) c.0) refl)
    c.1 refl

chosen : (x : Notation) (b : Bool) → (b ≡ true → notation_closed x ≡ true) → list_all notation_closed (if b then x ∷ [] else []) ≡ true
chosen x true f = and_from (notation_closed x) true (f refl) refl
chosen x false f = refl

if_closed_so : (symbol : List ℕ) (loci : List SoftType) (places : List ℕ) (t : Term) → list_all notation_closed (if_closed symbol loci places t) ≡ true
if_closed_so symbol loci places t = chosen (aggregate_notation symbol loci places t) (are_closed loci places t) (closed_so symbol loci places t)

aggregate_closed : (least : ℕ) (symbol : List ℕ) (loci : List SoftType) (s : Sym) (fs : List ReadField) → list_all notation_closed (aggregate_notations least symbol loci s fs) ≡ true
aggregate_closed least symbol loci s fs =
    let order : List ℕ = kept_order (least + length loci) fs in
    if_closed_so symbol (aggregate_loci least loci fs order) (field_places (length loci) order 0 fs) (aggregate_of (length loci) s (length order) (field_places (length loci) order 0 fs))

pub notations_closed : (least : ℕ) (symbol : List ℕ) (loci : List SoftType) (syms : StructureSymbols) (places : List ℕ) (fs : List ReadField) → loci_closed loci ≡ true → list_all (is_locus (length loci)) places ≡ true → are_distinct places ≡ true →
    list_all notation_closed (structure_notations least symbol loci syms places fs) ≡ true
notations_closed least symbol loci syms places fs h within distinct =
    and_from (notation_closed (structure_notation symbol loci syms.sym places)) _ (own_closed symbol loci syms.sym places h within distinct)
    (and_from (notation_closed (strict_notation loci syms)) _ (strict_closed loci syms h)
    (all-append notation_closed (aggregate_notations least symbol loci syms.aggregate fs) (selector_notations loci syms.sym fs) (aggregate_closed least symbol loci syms.aggregate fs) (selectors_closed loci syms.sym fs h)))

-- ancestors and fields
abbrev pub is_known_type : ℕ → ℕ → SoftType → Bool
is_known_type lo hi ty = type_known (between lo hi) 0 ty

abbrev pub is_known_field : ℕ → ℕ → ReadField → Bool
is_known_field lo hi f = type_known (between lo hi) 0 f.ty

ancestors_under : (least count : ℕ) (tys : List SoftType) → list_all (is_known_type least (least + count)) tys ≡ true → list_all (type_under count) (ancestor_types least count tys) ≡ true
ancestors_under least count tys h = all-map (is_known_type least (least + count)) (type_under count) (type_over_loci least count) tys (λ ty k. type_under_loci least (least + count) count ty refl k) h

fields_under : (least count : ℕ) (fs : List ReadField) → list_all (is_known_field least (least + count + 1)) fs ≡ true → list_all (field_under (inner_count count (selectors_of fs))) (fields_of least count fs) ≡ true
fields_under least count fs h =
    all-map (is_known_field least (least + count + 1)) (field_under (inner_count count (selectors_of fs))) (field_of least count (selectors_of fs)) fs (λ f k. field_type_under least count (selectors_of fs) f.ty k) h

same_count : {X Y Z : Type 0} (f : X → Y) (g : X → Z) (xs : List X) → length (map f xs) ≡ length (map g xs)
same_count f g [] = refl
same_count f g (x ∷ xs) = ap suc (same_count f g xs)

pub structure_so : (least : ℕ) (loci : List SoftType) (syms : StructureSymbols) (ancestors : List SoftType) (fs : List ReadField) (xs : List Notation) → loci_closed loci ≡ true → list_all (is_known_type least (least + length loci)) ancestors ≡ true →
    list_all (is_known_field least (least + length loci + 1)) fs ≡ true → list_all notation_closed xs ≡ true → structure_closed (structure_with least loci syms ancestors fs xs) ≡ true
structure_so least loci syms ancestors fs xs h a f n =
    let count : ℕ = length loci in
    let inner : ℕ = count + 1 + length (fields_of least count fs) in
    let e : inner_count count (selectors_of fs) ≡ inner = ap (λ k. count + 1 + k) (same_count selector_of (field_of least count (selectors_of fs)) fs) in
    let under : list_all (field_under inner) (fields_of least count fs) ≡ true = subst (λ k. list_all (field_under k) (fields_of least count fs) ≡ true) e (fields_under least count fs f) in
    and_from (loci_closed loci && list_all (type_under count) (ancestor_types least count ancestors) && list_all (field_under inner) (fields_of least count fs)) (list_all notation_closed xs)
    (and_from (loci_closed loci && list_all (type_under count) (ancestor_types least count ancestors)) (list_all (field_under inner) (fields_of least count fs))
    (and_from (loci_closed loci) (list_all (type_under count) (ancestor_types least count ancestors)) h (ancestors_under least count ancestors a)) under) n
