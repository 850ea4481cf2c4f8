-- A constant made an index: the body of a quantifier over it.
use Rattle.std.specs.Prelude.{ℕ, ◌+◌, map, nat_eq, if◌then◌else◌}
use Rattle.mz_logic.specs.Term.{Term, Terms, Bound, Const, App, none, more}
use Rattle.mz_logic.specs.Formula.{Formula, Truth, Eq, Atom, Not, And, All}
use Rattle.mz_logic.specs.Substitution.{index_shifted}

-- the term below one more binder, outside the innermost `depth`, whose index stands for the constant c
abbrev mutual
  pub term_over : ℕ → ℕ → Term → Term
  term_over c depth (Bound index) = Bound (index_shifted depth 1 index)
  term_over c depth (Const number) = if nat_eq number c then Bound depth else Const number
  term_over c depth (App s ts) = App s (args_over c depth ts)

  pub args_over : ℕ → ℕ → Terms → Terms
  args_over c depth none = none
  args_over c depth (more t ts) = more (term_over c depth t) (args_over c depth ts)

-- the formula below one more binder, outside the innermost `depth`, whose index stands for the constant c
abbrev pub formula_over : ℕ → ℕ → Formula → Formula
formula_over c depth Truth = Truth
formula_over c depth (Eq t u) = Eq (term_over c depth t) (term_over c depth u)
formula_over c depth (Atom s ts) = Atom s (map (term_over c depth) ts)
formula_over c depth (Not f) = Not (formula_over c depth f)
formula_over c depth (And f g) = And (formula_over c depth f) (formula_over c depth g)
formula_over c depth (All f) = All (formula_over c (depth + 1) f)
