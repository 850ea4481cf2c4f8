-- What is known of the fields of a structure stays so where their values stand for the selectors of its object.
use Rattle.std.proofs.Common.{◌≡◌, ◌≤◌, ◌<◌, ◌+◌, ℕ, zero, suc, Bool, true, false, List, [], ◌∷◌, map, length, refl, sym, ap, ◌∙◌, subst, arith, Option, None, Some}
use Rattle.std.specs.Prelude.{◌&&◌, nat_le, nat_lt, nat_eq, if◌then◌else◌}
use Rattle.std.specs.List.{list_all}
use Rattle.std.proofs.lemmas.Bool.{and_parts, and_from, leb-true, le-leb, ltb-true, lt-ltb}
use Rattle.mz_logic.specs.Sym.{same_sym}
use Rattle.mz_logic.specs.Term.{Term, Terms, Bound, Const, App, none, more, list_of}
use Rattle.mz_logic.specs.declared.sym.Sym.{Sym}
use Rattle.mz_logic.proofs.ListLemmas.{list_all-map_where}
use Rattle.mz_core.specs.Closed.{type_under}
use Rattle.mz_core.specs.declared.adjective.Adjective.{Adjective}
use Rattle.mz_core.specs.declared.soft_type.SoftType.{SoftType}
use Rattle.mz_core.proofs.AllLemmas.{type_all-with}
use Rattle.mz_choice_laws.specs.Known.{term_known, args_known, type_known}
use Rattle.mz_loci_laws.proofs.OverProofs.{between, type_under_loci}
use Rattle.mz_fields.specs.Values.{place_of, one_later, is_object, field_at, value_or, with_values, args_with_values, type_with_values}
use Rattle.mz_field_items.specs.Fields.{inner_count, field_type}

-- the place of a selector is one of those of the fields
abbrev some_place : ℕ → Option ℕ
some_place k = Some k

place-inj : (j k : ℕ) → some_place j ≡ some_place k → j ≡ k
place-inj j k e = cc

no_place : (k : ℕ) → None ≡ some_place k → ⊥
no_place k e = cc

later_within : (o : Option ℕ) (k n : ℕ) → ((j : ℕ) → o ≡ Some j → j < n) → one_later o ≡ Some k → k < suc n
later_within None k n f e = absurd (no_place k e)
later_within (Some j) k n f e = let lt : j < n = f j refl in let is : suc j ≡ k = place-inj (suc j) k e in omega (arith, lt, is)

this_within : (b : Bool) (o : Option ℕ) (k n : ℕ) → ((j : ℕ) → o ≡ Some j → j < n) → (if b then Some 0 else one_later o) ≡ Some k → k < suc n
this_within true o k n f e = let is : 0 ≡ k = place-inj 0 k e in omega (arith, is)
this_within false o k n f e = later_within o k n f e

place_within : (s : Sym) (ss : List Sym) (k : ℕ) → place_of s ss ≡ Some k → k < length ss
place_within s [] k e = absurd (no_place k e)
place_within s (t ∷ ss) k e = this_within (same_sym t s) (place_of s ss) k (length ss) (place_within s ss) e

where_object : (b : Bool) (o : Option ℕ) (k n : ℕ) → ((j : ℕ) → o ≡ Some j → j < n) → (if b then o else None) ≡ Some k → k < n
where_object true o k n f e = f k e
where_object false o k n f e = absurd (no_place k e)

field_within : (y : ℕ) (ss : List Sym) (s : Sym) (ts : List Term) (k : ℕ) → field_at y ss s ts ≡ Some k → k < length ss
field_within y ss s ts k e = where_object (is_object y ts) (place_of s ss) k (length ss) (place_within s ss) e

-- terms and types
further : (lo hi by m : ℕ) → between lo hi m ≡ true → between lo (hi + by) m ≡ true
further lo hi by m h =
    let both : (nat_le lo m ≡ true) × (nat_lt m hi ≡ true) = and_parts (nat_le lo m) (nat_lt m hi) h in
    let lt : m < hi = ltb-true m hi both.1 in
    and_from (nat_le lo m) (nat_lt m (hi + by)) both.0 (lt-ltb m (hi + by) (omega (arith, lt)))

value_known : (lo first count n : ℕ) (o : Option ℕ) (t : Term) → lo ≤ first → ((k : ℕ) → o ≡ Some k → k < count) → term_known (between lo (first + count)) n t ≡ true → term_known (between lo (first + count)) n (value_or first o t) ≡ true
value_known lo first count n None t le f h = h
value_known lo first count n (Some k) t le f h =
    let lt : k < count = f k refl in
    and_from (nat_le lo (first + k)) (nat_lt (first + k) (first + count)) (le-leb lo (first + k) (omega (arith, le))) (lt-ltb (first + k) (first + count) (omega (arith, lt)))

mutual
  values_known : (lo y first : ℕ) (ss : List Sym) (n : ℕ) (t : Term) → lo ≤ first → term_known (between lo first) n t ≡ true → term_known (between lo (first + length ss)) n (with_values y first ss t) ≡ true
  values_known lo y first ss n (Bound index) le h = h
  values_known lo y first ss n (Const number) le h = further lo first (length ss) number h
  values_known lo y first ss n (App s ts) le h =
      value_known lo first (length ss) n (field_at y ss s (list_of ts)) (App s (args_with_values y first ss ts)) le (field_within y ss s (list_of ts)) (args_values_known lo y first ss n ts le h)

  args_values_known : (lo y first : ℕ) (ss : List Sym) (n : ℕ) (ts : Terms) → lo ≤ first → args_known (between lo first) n ts ≡ true → args_known (between lo (first + length ss)) n (args_with_values y first ss ts) ≡ true
  args_values_known lo y first ss n none le h = refl
  args_values_known lo y first ss n (more t ts) le h =
      let both : (term_known (between lo first) n t ≡ true) × (args_known (between lo first) n ts ≡ true) = and_parts (term_known (between lo first) n t) (args_known (between lo first) n ts) h in
      and_from _ _ (values_known lo y first ss n t le both.0) (args_values_known lo y first ss n ts le both.1)

type_values_known : (lo y first : ℕ) (ss : List Sym) (ty : SoftType) → lo ≤ first → type_known (between lo first) 0 ty ≡ true → type_known (between lo (first + length ss)) 0 (type_with_values y first ss ty) ≡ true
type_values_known lo y first ss ty le h = type_all-with (term_known (between lo first)) (term_known (between lo (first + length ss))) 0 0 (with_values y first ss) ty (λ t k. values_known lo y first ss 0 t le k) h

-- the type of a field under the loci, the object and the fields' values
pub field_type_under : (least count : ℕ) (ss : List Sym) (ty : SoftType) → type_known (between least (least + count + 1)) 0 ty ≡ true → type_under (inner_count count ss) (field_type least count ss ty) ≡ true
field_type_under least count ss ty h =
    let le : least ≤ least + count + 1 = omega arith in
    let e : (least + count + 1) + length ss ≡ least + inner_count count ss = omega arith in
    type_under_loci least ((least + count + 1) + length ss) (inner_count count ss) (type_with_values (least + count) (least + count + 1) ss ty) e (type_values_known least (least + count) (least + count + 1) ss ty le h)
