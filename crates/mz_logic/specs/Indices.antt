-- Free indices of terms and formulas.
use Rattle.std.specs.Prelude.{ℕ, ◌+◌, Bool, true, ◌&&◌, nat_lt}
use Rattle.std.specs.List.{list_all}
use Rattle.mz_logic.specs.Term.{Term, Terms, Bound, Const, App, none, more}
use Rattle.mz_logic.specs.Formula.{Formula, Truth, Eq, Atom, Not, And, All}

-- each index of the term is below n
abbrev mutual
  pub is_below : ℕ → Term → Bool
  is_below n (Bound index) = nat_lt index n
  is_below n (Const number) = true
  is_below n (App s ts) = args_below n ts

  pub args_below : ℕ → Terms → Bool
  args_below n none = true
  args_below n (more t ts) = is_below n t && args_below n ts

-- each index of the formula that no quantifier of it binds is below n, counted from outside it
abbrev pub formula_below : ℕ → Formula → Bool
formula_below n Truth = true
formula_below n (Eq t u) = is_below n t && is_below n u
formula_below n (Atom s ts) = list_all (is_below n) ts
formula_below n (Not f) = formula_below n f
formula_below n (And f g) = formula_below n f && formula_below n g
formula_below n (All f) = formula_below (n + 1) f

-- the term has no index
abbrev pub closed : Term → Bool
closed = is_below 0

-- the formula has no free index
abbrev pub formula_closed : Formula → Bool
formula_closed = formula_below 0
