-- Laws of shifts: what has no index from the cutoff on is unchanged, shifts add up, and they change neither
-- constants nor the number of binders.
use Rattle.std.proofs.Common.{◌≡◌, ◌<◌, ◌≤◌, inl, inr, ℕ, ◌+◌, List, [], ◌∷◌, map, refl, ap, sym, ◌∙◌, arith, true}
use Rattle.std.specs.Prelude.{◌||◌}
use Rattle.std.specs.List.{list_any}
use Rattle.std.proofs.lemmas.Bool.{ltb-true, lt-ltb, le-ltb, cases_lt, and_parts, and_from}
use Rattle.mz_logic.specs.Term.{Term, Terms, Bound, Const, App, none, more, terms_of}
use Rattle.mz_logic.specs.Formula.{Formula, Truth, Eq, Atom, Not, And, All}
use Rattle.mz_logic.specs.Indices.{is_below, args_below, formula_below, closed, formula_closed}
use Rattle.mz_logic.specs.Constants.{occurs, occurs_in_args, occurs_in_formula}
use Rattle.mz_logic.specs.Substitution.{shift, shift_args, shift_formula}
use Rattle.mz_logic.proofs.IndexLemmas.{is_below-closed, formula_below-closed}
use Rattle.mz_logic.proofs.ListLemmas.{map-same, map-same_where, map-map, list_all-map_where}

-- arguments as a list
pub shift_args-terms_of : (from by : ℕ) (ts : List Term) → shift_args from by (terms_of ts) ≡ terms_of (map (shift from by) ts)
shift_args-terms_of from by [] = refl
shift_args-terms_of from by (t ∷ ts) = ap (λ us. more (shift from by t) us) (shift_args-terms_of from by ts)

pub ruleset shift_rules = (shift_args-terms_of)

-- an index inside, and one from the cutoff on
pub shift-inside : (from by index : ℕ) → index < from → shift from by (Bound index) ≡ Bound index
shift-inside from by index lt = rw (lt-ltb index from lt) refl

pub shift-outside : (from by index : ℕ) → from ≤ index → shift from by (Bound index) ≡ Bound (index + by)
shift-outside from by index le = rw (le-ltb index from le) refl

pub shift-Bound : (by index : ℕ) → shift 0 by (Bound index) ≡ Bound (index + by)
shift-Bound by index =
    let le : 0 ≤ index = omega arith in
    shift-outside 0 by index le

-- nothing from the cutoff on
mutual
  pub shift-below : (from by : ℕ) (t : Term) → is_below from t ≡ true → shift from by t ≡ t
  shift-below from by (Bound index) h = shift-inside from by index (ltb-true index from h)
  shift-below from by (Const number) h = refl
  shift-below from by (App s ts) h = ap (λ us. App s us) (shift_args-below from by ts h)

  pub shift_args-below : (from by : ℕ) (ts : Terms) → args_below from ts ≡ true → shift_args from by ts ≡ ts
  shift_args-below from by none h = refl
  shift_args-below from by (more t ts) h =
      let p : (is_below from t ≡ true) × (args_below from ts ≡ true) = and_parts (is_below from t) (args_below from ts) h in
      λ i. more (shift-below from by t p.0 i) (shift_args-below from by ts p.1 i)

pub shift_formula-below : (from by : ℕ) (f : Formula) → formula_below from f ≡ true → shift_formula from by f ≡ f
shift_formula-below from by Truth h = refl
shift_formula-below from by (Eq t u) h =
    let p : (is_below from t ≡ true) × (is_below from u ≡ true) = and_parts (is_below from t) (is_below from u) h in
    λ i. Eq (shift-below from by t p.0 i) (shift-below from by u p.1 i)
shift_formula-below from by (Atom s ts) h = ap (λ us. Atom s us) (map-same_where (is_below from) (shift from by) (λ t. shift-below from by t) ts h)
shift_formula-below from by (Not f) h = ap Not (shift_formula-below from by f h)
shift_formula-below from by (And f g) h =
    let p : (formula_below from f ≡ true) × (formula_below from g ≡ true) = and_parts (formula_below from f) (formula_below from g) h in
    λ i. And (shift_formula-below from by f p.0 i) (shift_formula-below from by g p.1 i)
shift_formula-below from by (All f) h = ap All (shift_formula-below (from + 1) by f h)

pub shift-closed : (from by : ℕ) (t : Term) → closed t ≡ true → shift from by t ≡ t
shift-closed from by t h = shift-below from by t (is_below-closed from t h)

pub shift_formula-closed : (from by : ℕ) (f : Formula) → formula_closed f ≡ true → shift_formula from by f ≡ f
shift_formula-closed from by f h = shift_formula-below from by f (formula_below-closed from f h)

-- by nothing
shift_index-zero : (from index : ℕ) → shift from 0 (Bound index) ≡ Bound index
shift_index-zero from index = elim (cases_lt index from) [
  | inl lt ↦ shift-inside from 0 index lt
  | inr le ↦ shift-outside from 0 index le ∙ ap Bound (omega arith)
]

mutual
  pub shift-zero : (from : ℕ) (t : Term) → shift from 0 t ≡ t
  shift-zero from (Bound index) = shift_index-zero from index
  shift-zero from (Const number) = refl
  shift-zero from (App s ts) = ap (λ us. App s us) (shift_args-zero from ts)

  pub shift_args-zero : (from : ℕ) (ts : Terms) → shift_args from 0 ts ≡ ts
  shift_args-zero from none = refl
  shift_args-zero from (more t ts) = λ i. more (shift-zero from t i) (shift_args-zero from ts i)

pub shift_formula-zero : (from : ℕ) (f : Formula) → shift_formula from 0 f ≡ f
shift_formula-zero from Truth = refl
shift_formula-zero from (Eq t u) = λ i. Eq (shift-zero from t i) (shift-zero from u i)
shift_formula-zero from (Atom s ts) = ap (λ us. Atom s us) (map-same (shift from 0) (shift-zero from) ts)
shift_formula-zero from (Not f) = ap Not (shift_formula-zero from f)
shift_formula-zero from (And f g) = λ i. And (shift_formula-zero from f i) (shift_formula-zero from g i)
shift_formula-zero from (All f) = ap All (shift_formula-zero (from + 1) f)

-- one after the other, where the second one begins within the first
shift_index-within : (from by cut further index : ℕ) → from ≤ cut → cut ≤ from + by → shift cut further (shift from by (Bound index)) ≡ shift from (by + further) (Bound index)
shift_index-within from by cut further index low high = elim (cases_lt index from) [
  | inl lt ↦
      let inside : index < cut = omega arith in
      ap (shift cut further) (shift-inside from by index lt) ∙ shift-inside cut further index inside ∙ sym (shift-inside from (by + further) index lt)
  | inr le ↦
      let above : cut ≤ index + by = omega arith in
      let sum : (index + by) + further ≡ index + (by + further) = omega arith in
      ap (shift cut further) (shift-outside from by index le) ∙ shift-outside cut further (index + by) above ∙ ap Bound sum ∙ sym (shift-outside from (by + further) index le)
]

mutual
  pub shift-within : (from by cut further : ℕ) (t : Term) → from ≤ cut → cut ≤ from + by → shift cut further (shift from by t) ≡ shift from (by + further) t
  shift-within from by cut further (Bound index) low high = shift_index-within from by cut further index low high
  shift-within from by cut further (Const number) low high = refl
  shift-within from by cut further (App s ts) low high = ap (λ us. App s us) (shift_args-within from by cut further ts low high)

  pub shift_args-within : (from by cut further : ℕ) (ts : Terms) → from ≤ cut → cut ≤ from + by → shift_args cut further (shift_args from by ts) ≡ shift_args from (by + further) ts
  shift_args-within from by cut further none low high = refl
  shift_args-within from by cut further (more t ts) low high = λ i. more (shift-within from by cut further t low high i) (shift_args-within from by cut further ts low high i)

pub shift_formula-within : (from by cut further : ℕ) (f : Formula) → from ≤ cut → cut ≤ from + by → shift_formula cut further (shift_formula from by f) ≡ shift_formula from (by + further) f
shift_formula-within from by cut further Truth low high = refl
shift_formula-within from by cut further (Eq t u) low high = λ i. Eq (shift-within from by cut further t low high i) (shift-within from by cut further u low high i)
shift_formula-within from by cut further (Atom s ts) low high = ap (λ us. Atom s us) (map-map (shift cut further) (shift from by) (shift from (by + further)) (λ t. shift-within from by cut further t low high) ts)
shift_formula-within from by cut further (Not f) low high = ap Not (shift_formula-within from by cut further f low high)
shift_formula-within from by cut further (And f g) low high = λ i. And (shift_formula-within from by cut further f low high i) (shift_formula-within from by cut further g low high i)
shift_formula-within from by cut further (All f) low high =
    let lower : from + 1 ≤ cut + 1 = omega arith in
    let higher : cut + 1 ≤ (from + 1) + by = omega arith in
    ap All (shift_formula-within (from + 1) by (cut + 1) further f lower higher)

pub shift-shift : (from by further : ℕ) (t : Term) → shift from further (shift from by t) ≡ shift from (by + further) t
shift-shift from by further t =
    let low : from ≤ from = omega arith in
    let high : from ≤ from + by = omega arith in
    shift-within from by from further t low high

pub shift_formula-shift : (from by further : ℕ) (f : Formula) → shift_formula from further (shift_formula from by f) ≡ shift_formula from (by + further) f
shift_formula-shift from by further f =
    let low : from ≤ from = omega arith in
    let high : from ≤ from + by = omega arith in
    shift_formula-within from by from further f low high

-- a shift outside another one
shift_index-swap : (from by cut further index : ℕ) → from ≤ cut → shift (cut + by) further (shift from by (Bound index)) ≡ shift from by (shift cut further (Bound index))
shift_index-swap from by cut further index low = elim (cases_lt index from) [
  | inl lt ↦
      let inside : index < cut = omega arith in
      let within : index < cut + by = omega arith in
      ap (shift (cut + by) further) (shift-inside from by index lt) ∙ shift-inside (cut + by) further index within
      ∙ sym (ap (shift from by) (shift-inside cut further index inside) ∙ shift-inside from by index lt)
  | inr le ↦ elim (cases_lt index cut) [
    | inl inside ↦
        let within : index + by < cut + by = omega arith in
        ap (shift (cut + by) further) (shift-outside from by index le) ∙ shift-inside (cut + by) further (index + by) within
        ∙ sym (ap (shift from by) (shift-inside cut further index inside) ∙ shift-outside from by index le)
    | inr above ↦
        let beyond : cut + by ≤ index + by = omega arith in
        let up : from ≤ index + further = omega arith in
        let sum : (index + by) + further ≡ (index + further) + by = omega arith in
        ap (shift (cut + by) further) (shift-outside from by index le) ∙ shift-outside (cut + by) further (index + by) beyond ∙ ap Bound sum
        ∙ sym (ap (shift from by) (shift-outside cut further index above) ∙ shift-outside from by (index + further) up)
  ]
]

mutual
  pub shift-swap : (from by cut further : ℕ) (t : Term) → from ≤ cut → shift (cut + by) further (shift from by t) ≡ shift from by (shift cut further t)
  shift-swap from by cut further (Bound index) low = shift_index-swap from by cut further index low
  shift-swap from by cut further (Const number) low = refl
  shift-swap from by cut further (App s ts) low = ap (λ us. App s us) (shift_args-swap from by cut further ts low)

  pub shift_args-swap : (from by cut further : ℕ) (ts : Terms) → from ≤ cut → shift_args (cut + by) further (shift_args from by ts) ≡ shift_args from by (shift_args cut further ts)
  shift_args-swap from by cut further none low = refl
  shift_args-swap from by cut further (more t ts) low = λ i. more (shift-swap from by cut further t low i) (shift_args-swap from by cut further ts low i)

shift_list-swap : (from by cut further : ℕ) (ts : List Term) → from ≤ cut → map (shift (cut + by) further) (map (shift from by) ts) ≡ map (shift from by) (map (shift cut further) ts)
shift_list-swap from by cut further [] low = refl
shift_list-swap from by cut further (t ∷ ts) low = λ i. shift-swap from by cut further t low i ∷ shift_list-swap from by cut further ts low i

pub shift_formula-swap : (from by cut further : ℕ) (f : Formula) → from ≤ cut → shift_formula (cut + by) further (shift_formula from by f) ≡ shift_formula from by (shift_formula cut further f)
shift_formula-swap from by cut further Truth low = refl
shift_formula-swap from by cut further (Eq t u) low = λ i. Eq (shift-swap from by cut further t low i) (shift-swap from by cut further u low i)
shift_formula-swap from by cut further (Atom s ts) low = ap (λ us. Atom s us) (shift_list-swap from by cut further ts low)
shift_formula-swap from by cut further (Not f) low = ap Not (shift_formula-swap from by cut further f low)
shift_formula-swap from by cut further (And f g) low = λ i. And (shift_formula-swap from by cut further f low i) (shift_formula-swap from by cut further g low i)
shift_formula-swap from by cut further (All f) low =
    let inner : from + 1 ≤ cut + 1 = omega arith in
    let e : (cut + by) + 1 ≡ (cut + 1) + by = omega arith in
    ap All (ap (λ k. shift_formula k further (shift_formula (from + 1) by f)) e ∙ shift_formula-swap (from + 1) by (cut + 1) further f inner)

-- indices and constants of what is shifted
shift_index-bound : (from by n index : ℕ) → index < n → is_below (n + by) (shift from by (Bound index)) ≡ true
shift_index-bound from by n index lt = elim (cases_lt index from) [
  | inl inside ↦
      let low : index < n + by = omega arith in
      ap (is_below (n + by)) (shift-inside from by index inside) ∙ lt-ltb index (n + by) low
  | inr le ↦
      let high : index + by < n + by = omega arith in
      ap (is_below (n + by)) (shift-outside from by index le) ∙ lt-ltb (index + by) (n + by) high
]

mutual
  pub is_below-shift : (from by n : ℕ) (t : Term) → is_below n t ≡ true → is_below (n + by) (shift from by t) ≡ true
  is_below-shift from by n (Bound index) h = shift_index-bound from by n index (ltb-true index n h)
  is_below-shift from by n (Const number) h = refl
  is_below-shift from by n (App s ts) h = args_below-shift from by n ts h

  pub args_below-shift : (from by n : ℕ) (ts : Terms) → args_below n ts ≡ true → args_below (n + by) (shift_args from by ts) ≡ true
  args_below-shift from by n none h = refl
  args_below-shift from by n (more t ts) h =
      let p : (is_below n t ≡ true) × (args_below n ts ≡ true) = and_parts (is_below n t) (args_below n ts) h in
      and_from (is_below (n + by) (shift from by t)) (args_below (n + by) (shift_args from by ts)) (is_below-shift from by n t p.0) (args_below-shift from by n ts p.1)

pub formula_below-shift : (from by n : ℕ) (f : Formula) → formula_below n f ≡ true → formula_below (n + by) (shift_formula from by f) ≡ true
formula_below-shift from by n Truth h = refl
formula_below-shift from by n (Eq t u) h =
    let p : (is_below n t ≡ true) × (is_below n u ≡ true) = and_parts (is_below n t) (is_below n u) h in
    and_from (is_below (n + by) (shift from by t)) (is_below (n + by) (shift from by u)) (is_below-shift from by n t p.0) (is_below-shift from by n u p.1)
formula_below-shift from by n (Atom s ts) h = list_all-map_where (is_below n) (is_below (n + by)) (shift from by) (λ t. is_below-shift from by n t) ts h
formula_below-shift from by n (Not f) h = formula_below-shift from by n f h
formula_below-shift from by n (And f g) h =
    let p : (formula_below n f ≡ true) × (formula_below n g ≡ true) = and_parts (formula_below n f) (formula_below n g) h in
    and_from (formula_below (n + by) (shift_formula from by f)) (formula_below (n + by) (shift_formula from by g)) (formula_below-shift from by n f p.0) (formula_below-shift from by n g p.1)
formula_below-shift from by n (All f) h =
    let e : (n + 1) + by ≡ (n + by) + 1 = omega arith in
    ap (λ m. formula_below m (shift_formula (from + 1) by f)) (sym e) ∙ formula_below-shift (from + 1) by (n + 1) f h

mutual
  pub occurs-shift : (c from by : ℕ) (t : Term) → occurs c (shift from by t) ≡ occurs c t
  occurs-shift c from by (Bound index) = refl
  occurs-shift c from by (Const number) = refl
  occurs-shift c from by (App s ts) = occurs_in_args-shift c from by ts

  pub occurs_in_args-shift : (c from by : ℕ) (ts : Terms) → occurs_in_args c (shift_args from by ts) ≡ occurs_in_args c ts
  occurs_in_args-shift c from by none = refl
  occurs_in_args-shift c from by (more t ts) = λ i. occurs-shift c from by t i || occurs_in_args-shift c from by ts i

occurs_in_list-shift : (c from by : ℕ) (ts : List Term) → list_any (occurs c) (map (shift from by) ts) ≡ list_any (occurs c) ts
occurs_in_list-shift c from by [] = refl
occurs_in_list-shift c from by (t ∷ ts) = λ i. occurs-shift c from by t i || occurs_in_list-shift c from by ts i

pub occurs_in_formula-shift : (c from by : ℕ) (f : Formula) → occurs_in_formula c (shift_formula from by f) ≡ occurs_in_formula c f
occurs_in_formula-shift c from by Truth = refl
occurs_in_formula-shift c from by (Eq t u) = λ i. occurs-shift c from by t i || occurs-shift c from by u i
occurs_in_formula-shift c from by (Atom s ts) = occurs_in_list-shift c from by ts
occurs_in_formula-shift c from by (Not f) = occurs_in_formula-shift c from by f
occurs_in_formula-shift c from by (And f g) = λ i. occurs_in_formula-shift c from by f i || occurs_in_formula-shift c from by g i
occurs_in_formula-shift c from by (All f) = occurs_in_formula-shift c (from + 1) by f

pub ruleset index_rules = (shift-Bound)
