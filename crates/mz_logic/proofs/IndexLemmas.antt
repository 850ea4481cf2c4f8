-- Indices of arguments as those of a list, and of more binders.
use Rattle.std.proofs.Common.{◌≡◌, ◌<◌, ◌≤◌, ℕ, ◌+◌, List, [], ◌∷◌, refl, ap, arith, true}
use Rattle.std.specs.Prelude.{◌&&◌}
use Rattle.std.specs.List.{list_all}
use Rattle.std.proofs.lemmas.Bool.{ltb-true, lt-ltb, and_parts, and_from}
use Rattle.mz_logic.specs.Term.{Term, Terms, Bound, Const, App, none, more, terms_of}
use Rattle.mz_logic.specs.Formula.{Formula, Truth, Eq, Atom, Not, And, All}
use Rattle.mz_logic.specs.Indices.{is_below, args_below, formula_below, closed, formula_closed}
use Rattle.mz_logic.proofs.ListLemmas.{list_all-where}

pub args_below-terms_of : (n : ℕ) (ts : List Term) → args_below n (terms_of ts) ≡ list_all (is_below n) ts
args_below-terms_of n [] = refl
args_below-terms_of n (t ∷ ts) = ap (λ b. is_below n t && b) (args_below-terms_of n ts)

pub ruleset below_rules = (args_below-terms_of)

-- what is below a number is below each greater one
mutual
  pub is_below-more : (m n : ℕ) (t : Term) → m ≤ n → is_below m t ≡ true → is_below n t ≡ true
  is_below-more m n (Bound index) le h =
      let lt : index < m = ltb-true index m h in
      lt-ltb index n (omega arith)
  is_below-more m n (Const number) le h = refl
  is_below-more m n (App s ts) le h = args_below-more m n ts le h

  pub args_below-more : (m n : ℕ) (ts : Terms) → m ≤ n → args_below m ts ≡ true → args_below n ts ≡ true
  args_below-more m n none le h = refl
  args_below-more m n (more t ts) le h =
      let p : (is_below m t ≡ true) × (args_below m ts ≡ true) = and_parts (is_below m t) (args_below m ts) h in
      and_from (is_below n t) (args_below n ts) (is_below-more m n t le p.0) (args_below-more m n ts le p.1)

pub formula_below-more : (m n : ℕ) (f : Formula) → m ≤ n → formula_below m f ≡ true → formula_below n f ≡ true
formula_below-more m n Truth le h = refl
formula_below-more m n (Eq t u) le h =
    let p : (is_below m t ≡ true) × (is_below m u ≡ true) = and_parts (is_below m t) (is_below m u) h in
    and_from (is_below n t) (is_below n u) (is_below-more m n t le p.0) (is_below-more m n u le p.1)
formula_below-more m n (Atom s ts) le h = list_all-where (is_below m) (is_below n) (λ t. is_below-more m n t le) ts h
formula_below-more m n (Not f) le h = formula_below-more m n f le h
formula_below-more m n (And f g) le h =
    let p : (formula_below m f ≡ true) × (formula_below m g ≡ true) = and_parts (formula_below m f) (formula_below m g) h in
    and_from (formula_below n f) (formula_below n g) (formula_below-more m n f le p.0) (formula_below-more m n g le p.1)
formula_below-more m n (All f) le h =
    let up : m + 1 ≤ n + 1 = omega arith in
    formula_below-more (m + 1) (n + 1) f up h

-- what has no index is below each number
pub is_below-closed : (n : ℕ) (t : Term) → closed t ≡ true → is_below n t ≡ true
is_below-closed n t h =
    let le : 0 ≤ n = omega arith in
    is_below-more 0 n t le h

pub formula_below-closed : (n : ℕ) (f : Formula) → formula_closed f ≡ true → formula_below n f ≡ true
formula_below-closed n f h =
    let le : 0 ≤ n = omega arith in
    formula_below-more 0 n f le h
