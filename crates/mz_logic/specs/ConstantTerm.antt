-- A term in place of a constant.
use Rattle.std.specs.Prelude.{ℕ, map, nat_eq, if◌then◌else◌}
use Rattle.mz_logic.specs.Term.{Term, Terms, Bound, Const, App, none, more}
use Rattle.mz_logic.specs.Formula.{Formula, Truth, Eq, Atom, Not, And, All}

-- the term with t for each occurrence of the constant c
abbrev mutual
  pub term_with : ℕ → Term → Term → Term
  term_with c t (Bound index) = Bound index
  term_with c t (Const number) = if nat_eq number c then t else Const number
  term_with c t (App s us) = App s (args_with c t us)

  pub args_with : ℕ → Term → Terms → Terms
  args_with c t none = none
  args_with c t (more u us) = more (term_with c t u) (args_with c t us)

-- the formula with t for each occurrence of the constant c
abbrev pub formula_with : ℕ → Term → Formula → Formula
formula_with c t Truth = Truth
formula_with c t (Eq u v) = Eq (term_with c t u) (term_with c t v)
formula_with c t (Atom s us) = Atom s (map (term_with c t) us)
formula_with c t (Not f) = Not (formula_with c t f)
formula_with c t (And f g) = And (formula_with c t f) (formula_with c t g)
formula_with c t (All f) = All (formula_with c t f)
