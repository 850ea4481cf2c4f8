-- Laws of the values that lists of terms give, and of the substitution of such lists.
use Rattle.std.proofs.Common.{◌≡◌, ◌<◌, ◌≤◌, inl, inr, ℕ, zero, suc, ◌+◌, ◌-◌, List, [], ◌∷◌, length, get_or, refl, ap, sym, ◌∙◌, arith, true, false}
use Rattle.std.specs.Prelude.{nat_lt, nat_eq, if◌then◌else◌}
use Rattle.std.specs.List.{list_all, list_any}
use Rattle.std.proofs.lemmas.Bool.{lt-ltb, le-ltb, ne_eqb, eq-eqb, cases_lt, cases_order, and_parts, and_from, or_parts, or_from}
use Rattle.std.proofs.lemmas.List.{get_or_past, get_or_default}
use Rattle.mz_logic.specs.Term.{Term, Terms, Bound, Const, App, none, more}
use Rattle.mz_logic.specs.Formula.{Formula, Truth, Eq, Atom, Not, And, All}
use Rattle.mz_logic.specs.Indices.{is_below, formula_below, closed, formula_closed}
use Rattle.mz_logic.specs.Constants.{occurs, occurs_in_formula}
use Rattle.mz_logic.specs.Substitution.{shift, shift_formula, substitute, substitute_args, substitute_formula, value_at, argument_at, kept_at, values_of, body_at}
use Rattle.mz_logic.specs.declared.beyond.Beyond.{Beyond}
use Rattle.mz_logic.specs.declared.beyond.Beyond.TheVariants.{Lowered, Kept, Zero}
use Rattle.mz_logic.proofs.BoolLemmas.{if-true, if-false}
use Rattle.mz_logic.proofs.ListLemmas.{map-map}
use Rattle.mz_logic.proofs.ShiftLaws.{shift-Bound, shift-closed, shift-within, shift-zero}
use Rattle.mz_logic.proofs.SubstitutionLaws.{substitute-inside, substitute-outside, substitute-agree, substitute_formula-agree, substitute-Bound, substitute_formula-Bound, substitute-unused, substitute_formula-unused, is_below-substitute, formula_below-substitute, occurs_in_formula-substitute}

-- a value within the list, and one beyond it
pub value_at-within : (ts : List Term) (index : ℕ) (d : Term) → index < length ts → value_at ts index ≡ get_or ts index d
value_at-within [] index d lt = absurd (omega arith)
value_at-within (t ∷ ts) zero d lt = refl
value_at-within (t ∷ ts) (suc index) d lt = value_at-within ts index d (omega arith)

pub value_at-beyond : (ts : List Term) (index : ℕ) → length ts ≤ index → value_at ts index ≡ Bound (index - length ts)
value_at-beyond [] index le = ap Bound (omega arith)
value_at-beyond (t ∷ ts) zero le = absurd (omega arith)
value_at-beyond (t ∷ ts) (suc index) le =
    let down : index - length ts ≡ suc index - suc (length ts) = omega arith in
    value_at-beyond ts index (omega arith) ∙ ap Bound down

-- the three give the same values within the list
pub value_at-argument_at : (ts : List Term) (index : ℕ) → index < length ts → value_at ts index ≡ argument_at ts index
value_at-argument_at ts index lt = value_at-within ts index (Const 0) lt

pub value_at-kept_at : (ts : List Term) (index : ℕ) → index < length ts → value_at ts index ≡ kept_at ts index
value_at-kept_at ts index lt = value_at-within ts index (Bound index) lt

-- an index outside all binders has its value
pub substitute-value_at : (ts : List Term) (index : ℕ) → substitute 0 (value_at ts) (Bound index) ≡ value_at ts index
substitute-value_at ts index =
    let le : 0 ≤ index = omega arith in
    let place : index - 0 ≡ index = omega arith in
    substitute-outside 0 (value_at ts) index le ∙ shift-zero 0 (value_at ts (index - 0)) ∙ ap (value_at ts) place

pub substitute-kept_at_index : (ts : List Term) (index : ℕ) → substitute 0 (kept_at ts) (Bound index) ≡ kept_at ts index
substitute-kept_at_index ts index =
    let le : 0 ≤ index = omega arith in
    let place : index - 0 ≡ index = omega arith in
    substitute-outside 0 (kept_at ts) index le ∙ shift-zero 0 (kept_at ts (index - 0)) ∙ ap (kept_at ts) place

-- terms whose indices all have a value
pub substitute-argument_at : (depth : ℕ) (ts : List Term) (t : Term) → is_below (depth + length ts) t ≡ true → substitute depth (value_at ts) t ≡ substitute depth (argument_at ts) t
substitute-argument_at depth ts t h = substitute-agree depth (length ts) (value_at ts) (argument_at ts) t (λ k lt. value_at-argument_at ts k lt) h

pub substitute-kept_at : (depth : ℕ) (ts : List Term) (t : Term) → is_below (depth + length ts) t ≡ true → substitute depth (value_at ts) t ≡ substitute depth (kept_at ts) t
substitute-kept_at depth ts t h = substitute-agree depth (length ts) (value_at ts) (kept_at ts) t (λ k lt. value_at-kept_at ts k lt) h

pub substitute_formula-argument_at : (depth : ℕ) (ts : List Term) (f : Formula) → formula_below (depth + length ts) f ≡ true → substitute_formula depth (value_at ts) f ≡ substitute_formula depth (argument_at ts) f
substitute_formula-argument_at depth ts f h = substitute_formula-agree depth (length ts) (value_at ts) (argument_at ts) f (λ k lt. value_at-argument_at ts k lt) h

pub substitute_formula-kept_at : (depth : ℕ) (ts : List Term) (f : Formula) → formula_below (depth + length ts) f ≡ true → substitute_formula depth (value_at ts) f ≡ substitute_formula depth (kept_at ts) f
substitute_formula-kept_at depth ts f h = substitute_formula-agree depth (length ts) (value_at ts) (kept_at ts) f (λ k lt. value_at-kept_at ts k lt) h

-- no terms change nothing
pub substitute-no_values : (depth : ℕ) (t : Term) → substitute depth (value_at []) t ≡ t
substitute-no_values depth t = substitute-Bound depth t

pub substitute_formula-no_values : (depth : ℕ) (f : Formula) → substitute_formula depth (value_at []) f ≡ f
substitute_formula-no_values depth f = substitute_formula-Bound depth f

-- an index at one term: inside, the term's own, and outside
pub substitute-one_equal : (depth : ℕ) (t : Term) (index : ℕ) → index ≡ depth → substitute depth (value_at (t ∷ [])) (Bound index) ≡ shift 0 depth t
substitute-one_equal depth t index e =
    let le : depth ≤ index = omega (arith, e) in
    let place : index - depth ≡ 0 = omega (arith, e) in
    substitute-outside depth (value_at (t ∷ [])) index le ∙ ap (λ k. shift 0 depth (value_at (t ∷ []) k)) place

pub substitute-one_above : (depth : ℕ) (t : Term) (index : ℕ) → depth < index → substitute depth (value_at (t ∷ [])) (Bound index) ≡ Bound (index - 1)
substitute-one_above depth t index lt =
    let le : depth ≤ index = omega arith in
    let place : index - depth ≡ suc (index - suc depth) = omega arith in
    let sum : (index - suc depth) + depth ≡ index - 1 = omega arith in
    substitute-outside depth (value_at (t ∷ [])) index le ∙ ap (λ k. shift 0 depth (value_at (t ∷ []) k)) place ∙ shift-Bound depth (index - suc depth) ∙ ap Bound sum

-- an index at one closed term
pub substitute-one : (depth : ℕ) (t : Term) (index : ℕ) → closed t ≡ true → substitute depth (value_at (t ∷ [])) (Bound index) ≡ (if nat_lt index depth then Bound index else (if nat_eq index depth then t else Bound (index - 1)))
substitute-one depth t index ct = elim (cases_order index depth) [
  | inl e ↦
      let not_below : nat_lt index depth ≡ false = le-ltb index depth (omega (arith, e)) in
      substitute-one_equal depth t index e ∙ shift-closed 0 depth t ct
      ∙ sym (if-false (nat_lt index depth) (Bound index) (if nat_eq index depth then t else Bound (index - 1)) not_below ∙ if-true (nat_eq index depth) t (Bound (index - 1)) (eq-eqb index depth e))
  | inr o ↦ elim o [
    | inl lt ↦ substitute-inside depth (value_at (t ∷ [])) index lt ∙ sym (if-true (nat_lt index depth) (Bound index) (if nat_eq index depth then t else Bound (index - 1)) (lt-ltb index depth lt))
    | inr gt ↦
        let not_below : nat_lt index depth ≡ false = le-ltb index depth (omega arith) in
        let other : nat_eq index depth ≡ false = ne_eqb index depth (λ e. omega (arith, e)) in
        substitute-one_above depth t index gt
        ∙ sym (if-false (nat_lt index depth) (Bound index) (if nat_eq index depth then t else Bound (index - 1)) not_below ∙ if-false (nat_eq index depth) t (Bound (index - 1)) other)
  ]
]

get_closed : (ts : List Term) (k : ℕ) (d : Term) → list_all closed ts ≡ true → k < length ts → closed (get_or ts k d) ≡ true
get_closed [] k d h lt = absurd (omega arith)
get_closed (t ∷ ts) zero d h lt = (and_parts (closed t) (list_all closed ts) h).0
get_closed (t ∷ ts) (suc k) d h lt = get_closed ts k d (and_parts (closed t) (list_all closed ts) h).1 (omega arith)

-- an index at closed terms
pub substitute-at : (depth : ℕ) (ts : List Term) (index : ℕ) → list_all closed ts ≡ true → depth ≤ index → substitute depth (value_at ts) (Bound index) ≡ get_or ts (index - depth) (Bound (index - length ts))
substitute-at depth ts index h le = elim (cases_lt (index - depth) (length ts)) [
  | inl lt ↦
      let d : Term = Bound (index - length ts) in
      substitute-outside depth (value_at ts) index le ∙ ap (shift 0 depth) (value_at-within ts (index - depth) d lt) ∙ shift-closed 0 depth (get_or ts (index - depth) d) (get_closed ts (index - depth) d h lt)
  | inr past ↦
      let sum : ((index - depth) - length ts) + depth ≡ index - length ts = omega arith in
      substitute-outside depth (value_at ts) index le ∙ ap (shift 0 depth) (value_at-beyond ts (index - depth) past) ∙ shift-Bound depth ((index - depth) - length ts) ∙ ap Bound sum
      ∙ sym (get_or_past ts (index - depth) (Bound (index - length ts)) past)
]

-- what was shifted past the list's binders is as it was
value_at-beyond_list : (ts : List Term) (k : ℕ) → value_at ts (k + length ts) ≡ Bound k
value_at-beyond_list ts k =
    let le : length ts ≤ k + length ts = omega arith in
    let down : (k + length ts) - length ts ≡ k = omega arith in
    value_at-beyond ts (k + length ts) le ∙ ap Bound down

pub substitute-past : (depth : ℕ) (ts : List Term) (t : Term) → substitute depth (value_at ts) (shift depth (length ts) t) ≡ t
substitute-past depth ts t = substitute-unused depth (length ts) (value_at ts) t ∙ (λ i. substitute depth (λ k. value_at-beyond_list ts k i) t) ∙ substitute-Bound depth t

pub substitute_formula-past : (depth : ℕ) (ts : List Term) (f : Formula) → substitute_formula depth (value_at ts) (shift_formula depth (length ts) f) ≡ f
substitute_formula-past depth ts f = substitute_formula-unused depth (length ts) (value_at ts) f ∙ (λ i. substitute_formula depth (λ k. value_at-beyond_list ts k i) f) ∙ substitute_formula-Bound depth f

-- one term after the others is all at once
substitute-past_one : (depth : ℕ) (t w : Term) → substitute depth (value_at (t ∷ [])) (shift 0 (depth + 1) w) ≡ shift 0 depth w
substitute-past_one depth t w =
    let low : 0 ≤ depth = omega arith in
    let high : depth ≤ 0 + depth = omega arith in
    ap (substitute depth (value_at (t ∷ []))) (sym (shift-within 0 depth depth 1 w low high)) ∙ substitute-past depth (t ∷ []) (shift 0 depth w)

one_index-others : (depth : ℕ) (t : Term) (ts : List Term) (index : ℕ) → substitute depth (value_at (t ∷ [])) (substitute (depth + 1) (value_at ts) (Bound index)) ≡ substitute depth (value_at (t ∷ ts)) (Bound index)
one_index-others depth t ts index = elim (cases_order index depth) [
  | inl e ↦
      let inside : index < depth + 1 = omega (arith, e) in
      let le : depth ≤ index = omega (arith, e) in
      let place : index - depth ≡ 0 = omega (arith, e) in
      ap (substitute depth (value_at (t ∷ []))) (substitute-inside (depth + 1) (value_at ts) index inside) ∙ substitute-one_equal depth t index e
      ∙ sym (substitute-outside depth (value_at (t ∷ ts)) index le ∙ ap (λ k. shift 0 depth (value_at (t ∷ ts) k)) place)
  | inr o ↦ elim o [
    | inl lt ↦
        let inside : index < depth + 1 = omega arith in
        ap (substitute depth (value_at (t ∷ []))) (substitute-inside (depth + 1) (value_at ts) index inside) ∙ substitute-inside depth (value_at (t ∷ [])) index lt
        ∙ sym (substitute-inside depth (value_at (t ∷ ts)) index lt)
    | inr gt ↦
        let far : depth + 1 ≤ index = omega arith in
        let le : depth ≤ index = omega arith in
        let place : index - depth ≡ suc (index - (depth + 1)) = omega arith in
        ap (substitute depth (value_at (t ∷ []))) (substitute-outside (depth + 1) (value_at ts) index far) ∙ substitute-past_one depth t (value_at ts (index - (depth + 1)))
        ∙ sym (substitute-outside depth (value_at (t ∷ ts)) index le ∙ ap (λ k. shift 0 depth (value_at (t ∷ ts) k)) place)
  ]
]

mutual
  pub substitute-one_others : (depth : ℕ) (t : Term) (ts : List Term) (u : Term) → substitute depth (value_at (t ∷ [])) (substitute (depth + 1) (value_at ts) u) ≡ substitute depth (value_at (t ∷ ts)) u
  substitute-one_others depth t ts (Bound index) = one_index-others depth t ts index
  substitute-one_others depth t ts (Const number) = refl
  substitute-one_others depth t ts (App s us) = ap (λ vs. App s vs) (substitute_args-one_others depth t ts us)

  pub substitute_args-one_others : (depth : ℕ) (t : Term) (ts : List Term) (us : Terms) → substitute_args depth (value_at (t ∷ [])) (substitute_args (depth + 1) (value_at ts) us) ≡ substitute_args depth (value_at (t ∷ ts)) us
  substitute_args-one_others depth t ts none = refl
  substitute_args-one_others depth t ts (more u us) = λ i. more (substitute-one_others depth t ts u i) (substitute_args-one_others depth t ts us i)

pub substitute_formula-one_others : (depth : ℕ) (t : Term) (ts : List Term) (f : Formula) → substitute_formula depth (value_at (t ∷ [])) (substitute_formula (depth + 1) (value_at ts) f) ≡ substitute_formula depth (value_at (t ∷ ts)) f
substitute_formula-one_others depth t ts Truth = refl
substitute_formula-one_others depth t ts (Eq u v) = λ i. Eq (substitute-one_others depth t ts u i) (substitute-one_others depth t ts v i)
substitute_formula-one_others depth t ts (Atom s us) = ap (λ vs. Atom s vs) (map-map (substitute depth (value_at (t ∷ []))) (substitute (depth + 1) (value_at ts)) (substitute depth (value_at (t ∷ ts))) (substitute-one_others depth t ts) us)
substitute_formula-one_others depth t ts (Not f) = ap Not (substitute_formula-one_others depth t ts f)
substitute_formula-one_others depth t ts (And f g) = λ i. And (substitute_formula-one_others depth t ts f i) (substitute_formula-one_others depth t ts g i)
substitute_formula-one_others depth t ts (All f) = ap All (substitute_formula-one_others (depth + 1) t ts f)

-- indices of what has closed terms for its outer indices
closed_value : (ts : List Term) (k : ℕ) → list_all closed ts ≡ true → k < length ts → closed (value_at ts k) ≡ true
closed_value ts k h lt = ap closed (value_at-within ts k (Const 0) lt) ∙ get_closed ts k (Const 0) h lt

pub is_below-values : (depth : ℕ) (ts : List Term) (t : Term) → list_all closed ts ≡ true → is_below (depth + length ts) t ≡ true → is_below depth (substitute depth (value_at ts) t) ≡ true
is_below-values depth ts t h below =
    let e : depth ≡ depth + 0 = omega arith in
    ap (λ m. is_below m (substitute depth (value_at ts) t)) e ∙ is_below-substitute depth 0 (length ts) (value_at ts) t (λ k lt. closed_value ts k h lt) below

pub formula_below-values : (depth : ℕ) (ts : List Term) (f : Formula) → list_all closed ts ≡ true → formula_below (depth + length ts) f ≡ true → formula_below depth (substitute_formula depth (value_at ts) f) ≡ true
formula_below-values depth ts f h below =
    let e : depth ≡ depth + 0 = omega arith in
    ap (λ m. formula_below m (substitute_formula depth (value_at ts) f)) e ∙ formula_below-substitute depth 0 (length ts) (value_at ts) f (λ k lt. closed_value ts k h lt) below

pub formula_closed-body_at : (b : Formula) (t : Term) → closed t ≡ true → formula_closed (All b) ≡ true → formula_closed (body_at b t) ≡ true
formula_closed-body_at b t ct h =
    let alone : list_all closed (t ∷ []) ≡ true = and_from (closed t) true ct refl in
    formula_below-values 0 (t ∷ []) b alone h

-- constants of values
pub occurs-value_at : (c : ℕ) (ts : List Term) (k : ℕ) → list_any (occurs c) ts ≡ false → occurs c (value_at ts k) ≡ false
occurs-value_at c [] k h = refl
occurs-value_at c (t ∷ ts) zero h = (or_parts (occurs c t) (list_any (occurs c) ts) h).0
occurs-value_at c (t ∷ ts) (suc k) h = occurs-value_at c ts k (or_parts (occurs c t) (list_any (occurs c) ts) h).1

pub occurs_in_formula-body_at : (c : ℕ) (t : Term) (b : Formula) → occurs c t ≡ false → occurs_in_formula c b ≡ false → occurs_in_formula c (body_at b t) ≡ false
occurs_in_formula-body_at c t b apart h =
    let alone : list_any (occurs c) (t ∷ []) ≡ false = or_from (occurs c t) false apart refl in
    occurs_in_formula-substitute c 0 (value_at (t ∷ [])) b (λ k. occurs-value_at c (t ∷ []) k alone) h

-- an index beyond the list, by what becomes of it
pub substitute-lowered : (depth : ℕ) (ts : List Term) (index : ℕ) → depth ≤ index → length ts ≤ index - depth → substitute depth (value_at ts) (Bound index) ≡ Bound (index - length ts)
substitute-lowered depth ts index le past =
    let sum : ((index - depth) - length ts) + depth ≡ index - length ts = omega arith in
    substitute-outside depth (value_at ts) index le ∙ ap (shift 0 depth) (value_at-beyond ts (index - depth) past) ∙ shift-Bound depth ((index - depth) - length ts) ∙ ap Bound sum

pub substitute-kept : (depth : ℕ) (ts : List Term) (index : ℕ) → depth ≤ index → length ts ≤ index - depth → substitute depth (kept_at ts) (Bound index) ≡ Bound index
substitute-kept depth ts index le past =
    let sum : (index - depth) + depth ≡ index = omega arith in
    substitute-outside depth (kept_at ts) index le ∙ ap (shift 0 depth) (get_or_past ts (index - depth) (Bound (index - depth)) past) ∙ shift-Bound depth (index - depth) ∙ ap Bound sum

pub substitute-zero : (depth : ℕ) (ts : List Term) (index : ℕ) → depth ≤ index → length ts ≤ index - depth → substitute depth (argument_at ts) (Bound index) ≡ Const 0
substitute-zero depth ts index le past =
    substitute-outside depth (argument_at ts) index le ∙ ap (shift 0 depth) (get_or_past ts (index - depth) (Const 0) past)

-- an index within the list
values_of-within : (b : Beyond) (ts : List Term) (place : ℕ) (t : Term) → place < length ts → t ≡ get_or ts place t → values_of b ts place ≡ t
values_of-within Lowered ts place t lt e = value_at-within ts place t lt ∙ sym e
values_of-within Kept ts place t lt e = get_or_default ts place (Bound place) t lt ∙ sym e
values_of-within Zero ts place t lt e = get_or_default ts place (Const 0) t lt ∙ sym e

pub shift-substitute-value : (b : Beyond) (depth : ℕ) (ts : List Term) (index : ℕ) (t : Term) → depth ≤ index → index - depth < length ts → t ≡ get_or ts (index - depth) t → shift 0 depth t ≡ substitute depth (values_of b ts) (Bound index)
shift-substitute-value b depth ts index t le lt e =
    ap (shift 0 depth) (sym (values_of-within b ts (index - depth) t lt e)) ∙ sym (substitute-outside depth (values_of b ts) index le)

pub ruleset value_rules = (shift-substitute-value, substitute-lowered, substitute-kept, substitute-zero, substitute-inside)
