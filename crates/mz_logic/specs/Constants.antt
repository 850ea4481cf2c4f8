-- Constants of terms and formulas.
use Rattle.std.specs.Prelude.{ℕ, Bool, false, ◌||◌, nat_eq}
use Rattle.std.specs.List.{list_any}
use Rattle.mz_logic.specs.Term.{Term, Terms, Bound, Const, App, none, more}
use Rattle.mz_logic.specs.Formula.{Formula, Truth, Eq, Atom, Not, And, All}

-- the constant c occurs in the term
abbrev mutual
  pub occurs : ℕ → Term → Bool
  occurs c (Bound index) = false
  occurs c (Const number) = nat_eq number c
  occurs c (App s ts) = occurs_in_args c ts

  pub occurs_in_args : ℕ → Terms → Bool
  occurs_in_args c none = false
  occurs_in_args c (more t ts) = occurs c t || occurs_in_args c ts

-- the constant c occurs in the formula
abbrev pub occurs_in_formula : ℕ → Formula → Bool
occurs_in_formula c Truth = false
occurs_in_formula c (Eq t u) = occurs c t || occurs c u
occurs_in_formula c (Atom s ts) = list_any (occurs c) ts
occurs_in_formula c (Not f) = occurs_in_formula c f
occurs_in_formula c (And f g) = occurs_in_formula c f || occurs_in_formula c g
occurs_in_formula c (All f) = occurs_in_formula c f
