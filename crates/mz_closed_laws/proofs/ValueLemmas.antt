-- Values for the loci of a property and for the fields of a structure.
use Rattle.std.proofs.Common.{◌≡◌, ◌<◌, ◌≤◌, ℕ, zero, suc, ◌+◌, ◌-◌, List, [], ◌∷◌, ◌++◌, map, length, reverse, get_or, refl, ap, ◌∙◌, arith, Bool, true, false}
use Rattle.std.specs.Prelude.{nat_eq, if◌then◌else◌}
use Rattle.std.specs.List.{list_all}
use Rattle.std.proofs.lemmas.Bool.{lt-ltb, and_parts, and_from}
use Rattle.std.proofs.lemmas.List.{get_or-reverse, length-reverse, length-append, length-map}
use Rattle.mz_logic.specs.Term.{Term, Bound}
use Rattle.mz_core.specs.TypeShift.{shift_type}
use Rattle.mz_core.specs.Hidden.{object_type}
use Rattle.mz_core.specs.Closed.{term_under, type_under, loci_under, loci_closed}
use Rattle.mz_core.specs.declared.soft_type.SoftType.{SoftType}
use Rattle.mz_core.specs.declared.structure.Field.{Field}
use Rattle.mz_core.specs.declared.structure.Structure.{Structure}
use Rattle.mz_core.proofs.UnderTerms.{args_under-list}
use Rattle.mz_core.proofs.AllLemmas.{all-append, all-alone}
use Rattle.mz_items.specs.Loci.{inward, variables}
use Rattle.mz_items.specs.PropertyRows.{locus_type, locus_value, locus_values}
use Rattle.mz_items.specs.StructureRows.{aggregate, selected, selected_values, given_values}
use Rattle.mz_items.proofs.RowLemmas.{all-reverse, inward_under, variables_under, shift_type_under}
use Rattle.mz_closed_laws.proofs.LiteralLemmas.{type_at, index_0}

-- types of loci
locus_at : (n : ℕ) (loci : List SoftType) (k : ℕ) (d : SoftType) → loci_under n loci ≡ true → k < length loci → type_under (n + k) (get_or loci k d) ≡ true
locus_at n [] k d h lt = absurd (omega arith)
locus_at n (ty ∷ tys) zero d h lt =
    let e : n ≡ n + 0 = omega arith in
    type_at n (n + 0) ty e (and_parts (type_under n ty) (loci_under (n + 1) tys) h).0
locus_at n (ty ∷ tys) (suc k) d h lt =
    let e : n + 1 + k ≡ n + suc k = omega arith in
    type_at (n + 1 + k) (n + suc k) (get_or tys k d) e (locus_at (n + 1) tys k d (and_parts (type_under n ty) (loci_under (n + 1) tys) h).1 (omega arith))

pub locus_type_under : (loci : List SoftType) (k : ℕ) → loci_closed loci ≡ true → k < length loci → type_under (length loci) (locus_type loci k) ≡ true
locus_type_under loci k h lt =
    let within : length loci - 1 - k < length loci = omega arith in
    let sum : 0 + (length loci - 1 - k) + (k + 1) ≡ length loci = omega arith in
    let at : type_under (0 + (length loci - 1 - k)) (get_or loci (length loci - 1 - k) object_type) ≡ true = locus_at 0 loci (length loci - 1 - k) object_type h within in
    ap (λ (u : SoftType). type_under (length loci) (shift_type 0 (k + 1) u)) (get_or-reverse loci k object_type lt)
    ∙ type_at (0 + (length loci - 1 - k) + (k + 1)) (length loci) (shift_type 0 (k + 1) (get_or loci (length loci - 1 - k) object_type)) sum (shift_type_under 0 (k + 1) (0 + (length loci - 1 - k)) (get_or loci (length loci - 1 - k) object_type) at)

-- values of loci
choice_under : (n : ℕ) (b c : Bool) (t u v : Term) → term_under n t ≡ true → term_under n u ≡ true → term_under n v ≡ true → term_under n (if b then t else (if c then u else v)) ≡ true
choice_under n true c t u v ht hu hv = ht
choice_under n false true t u v ht hu hv = hu
choice_under n false false t u v ht hu hv = hv

pub locus_values_under : (n left right count : ℕ) (t u : Term) → count ≤ n → term_under n t ≡ true → term_under n u ≡ true → list_all (term_under n) (locus_values 0 left t right u count) ≡ true
locus_values_under n left right zero t u le ht hu = refl
locus_values_under n left right (suc count) t u le ht hu =
    let lt : count + 0 < n = omega arith in
    let less : count ≤ n = omega arith in
    all-append (term_under n) (locus_values 0 left t right u count) (locus_value 0 left t right u count ∷ [])
    (locus_values_under n left right count t u less ht hu)
    (all-alone (term_under n) (locus_value 0 left t right u count) (choice_under n (nat_eq count left) (nat_eq count right) t u (Bound (count + 0)) ht hu (lt-ltb (count + 0) n lt)))

pub length-locus_values : (left right count : ℕ) (t u : Term) → length (locus_values 0 left t right u count) ≡ count
length-locus_values left right zero t u = refl
length-locus_values left right (suc count) t u =
    let e : length (locus_values 0 left t right u count ++ locus_value 0 left t right u count ∷ []) ≡ length (locus_values 0 left t right u count) + 1 = length-append (locus_values 0 left t right u count) (locus_value 0 left t right u count ∷ []) in
    let ih : length (locus_values 0 left t right u count) ≡ count = length-locus_values left right count t u in
    omega (arith, e, ih)

-- arguments of structures
length-inward : (depth count : ℕ) → length (inward depth count) ≡ count
length-inward depth zero = refl
length-inward depth (suc count) =
    let e : length (inward depth count ++ Bound (depth + count) ∷ []) ≡ length (inward depth count) + 1 = length-append (inward depth count) (Bound (depth + count) ∷ []) in
    let ih : length (inward depth count) ≡ count = length-inward depth count in
    omega (arith, e, ih)

pub aggregate_under : (n by : ℕ) (s : Structure) (ts : List Term) → by + length s.loci ≤ n → list_all (term_under n) ts ≡ true → term_under n (aggregate by s ts) ≡ true
aggregate_under n by s ts le h =
    args_under-list n (variables by (length s.loci) ++ ts) (all-append (term_under n) (variables by (length s.loci)) ts (variables_under n by (length s.loci) le) h)

pub selected_under : (n : ℕ) (t : Term) (f : Field) → term_under n t ≡ true → term_under n (selected t f) ≡ true
selected_under n t f h = and_from _ _ h refl

pub selected_all : (n : ℕ) (t : Term) (fs : List Field) → term_under n t ≡ true → list_all (term_under n) (map (selected t) fs) ≡ true
selected_all n t [] h = refl
selected_all n t (f ∷ fs) h = and_from _ _ (selected_under n t f h) (selected_all n t fs h)

-- values of fields
pub selected_values_under : (s : Structure) → list_all (term_under (length s.loci + 1)) (selected_values s) ≡ true
selected_values_under s =
    let le : 1 + length s.loci ≤ length s.loci + 1 = omega arith in
    all-append (term_under (length s.loci + 1)) (reverse (map (selected (Bound 0)) s.fields)) (Bound 0 ∷ inward 1 (length s.loci))
    (all-reverse (term_under (length s.loci + 1)) (map (selected (Bound 0)) s.fields) (selected_all (length s.loci + 1) (Bound 0) s.fields (index_0 (length s.loci))))
    (and_from _ _ (index_0 (length s.loci)) (inward_under (length s.loci + 1) 1 (length s.loci) le))

pub length-selected_values : (s : Structure) → length (selected_values s) ≡ length s.loci + 1 + length s.fields
length-selected_values s =
    let a : length (reverse (map (selected (Bound 0)) s.fields) ++ Bound 0 ∷ inward 1 (length s.loci)) ≡ length (reverse (map (selected (Bound 0)) s.fields)) + length (Bound 0 ∷ inward 1 (length s.loci)) = length-append (reverse (map (selected (Bound 0)) s.fields)) (Bound 0 ∷ inward 1 (length s.loci)) in
    let b : length (reverse (map (selected (Bound 0)) s.fields)) ≡ length (map (selected (Bound 0)) s.fields) = length-reverse (map (selected (Bound 0)) s.fields) in
    let c : length (map (selected (Bound 0)) s.fields) ≡ length s.fields = length-map s.fields (selected (Bound 0)) in
    let d : length (inward 1 (length s.loci)) ≡ length s.loci = length-inward 1 (length s.loci) in
    omega (arith, a, b, c, d)

pub given_values_under : (s : Structure) (count : ℕ) (a : Term) → term_under (length s.loci + count) a ≡ true → list_all (term_under (length s.loci + count)) (given_values s count a) ≡ true
given_values_under s count a h =
    let low : 0 + count ≤ length s.loci + count = omega arith in
    let high : count + length s.loci ≤ length s.loci + count = omega arith in
    all-append (term_under (length s.loci + count)) (inward 0 count) (a ∷ inward count (length s.loci)) (inward_under (length s.loci + count) 0 count low) (and_from _ _ h (inward_under (length s.loci + count) count (length s.loci) high))

pub length-given_values : (s : Structure) (count : ℕ) (a : Term) → length (given_values s count a) ≡ length s.loci + 1 + count
length-given_values s count a =
    let b : length (inward 0 count ++ a ∷ inward count (length s.loci)) ≡ length (inward 0 count) + length (a ∷ inward count (length s.loci)) = length-append (inward 0 count) (a ∷ inward count (length s.loci)) in
    let c : length (inward 0 count) ≡ count = length-inward 0 count in
    let d : length (inward count (length s.loci)) ≡ length s.loci = length-inward count (length s.loci) in
    omega (arith, b, c, d)
