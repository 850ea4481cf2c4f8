-- A constant that occurs in none of some formulas.
use Rattle.std.proofs.Common.{◌≡◌, ◌<◌, ℕ, max, List, [], ◌∷◌, refl, arith, false}
use Rattle.std.specs.List.{list_any}
use Rattle.std.proofs.lemmas.Bool.{ne_eqb, or_from}
use Rattle.mz_logic.specs.Term.{Term, Terms, Bound, Const, App, none, more}
use Rattle.mz_logic.specs.Formula.{Formula, Truth, Eq, Atom, Not, And, All}
use Rattle.mz_logic.specs.Constants.{occurs, occurs_in_args, occurs_in_formula}

-- the greatest number of a constant of the term
abbrev mutual
  pub greatest : Term → ℕ
  greatest (Bound index) = 0
  greatest (Const number) = number
  greatest (App s ts) = args_greatest ts

  pub args_greatest : Terms → ℕ
  args_greatest none = 0
  args_greatest (more t ts) = max (greatest t) (args_greatest ts)

abbrev pub list_greatest : List Term → ℕ
list_greatest [] = 0
list_greatest (t ∷ ts) = max (greatest t) (list_greatest ts)

abbrev pub formula_greatest : Formula → ℕ
formula_greatest Truth = 0
formula_greatest (Eq t u) = max (greatest t) (greatest u)
formula_greatest (Atom s ts) = list_greatest ts
formula_greatest (Not f) = formula_greatest f
formula_greatest (And f g) = max (formula_greatest f) (formula_greatest g)
formula_greatest (All f) = formula_greatest f

abbrev pub all_greatest : List Formula → ℕ
all_greatest [] = 0
all_greatest (f ∷ fs) = max (formula_greatest f) (all_greatest fs)

mutual
  pub occurs-above : (c : ℕ) (t : Term) → greatest t < c → occurs c t ≡ false
  occurs-above c (Bound index) lt = refl
  occurs-above c (Const number) lt = ne_eqb number c (λ e. omega arith)
  occurs-above c (App s ts) lt = occurs_in_args-above c ts lt

  pub occurs_in_args-above : (c : ℕ) (ts : Terms) → args_greatest ts < c → occurs_in_args c ts ≡ false
  occurs_in_args-above c none lt = refl
  occurs_in_args-above c (more t ts) lt = or_from _ _ (occurs-above c t (omega arith)) (occurs_in_args-above c ts (omega arith))

occurs_in_list-above : (c : ℕ) (ts : List Term) → list_greatest ts < c → list_any (occurs c) ts ≡ false
occurs_in_list-above c [] lt = refl
occurs_in_list-above c (t ∷ ts) lt = or_from _ _ (occurs-above c t (omega arith)) (occurs_in_list-above c ts (omega arith))

pub occurs_in_formula-above : (c : ℕ) (f : Formula) → formula_greatest f < c → occurs_in_formula c f ≡ false
occurs_in_formula-above c Truth lt = refl
occurs_in_formula-above c (Eq t u) lt = or_from _ _ (occurs-above c t (omega arith)) (occurs-above c u (omega arith))
occurs_in_formula-above c (Atom s ts) lt = occurs_in_list-above c ts lt
occurs_in_formula-above c (Not f) lt = occurs_in_formula-above c f lt
occurs_in_formula-above c (And f g) lt = or_from _ _ (occurs_in_formula-above c f (omega arith)) (occurs_in_formula-above c g (omega arith))
occurs_in_formula-above c (All f) lt = occurs_in_formula-above c f lt

pub occurs_in_formulas-above : (c : ℕ) (fs : List Formula) → all_greatest fs < c → list_any (occurs_in_formula c) fs ≡ false
occurs_in_formulas-above c [] lt = refl
occurs_in_formulas-above c (f ∷ fs) lt = or_from _ _ (occurs_in_formula-above c f (omega arith)) (occurs_in_formulas-above c fs (omega arith))
