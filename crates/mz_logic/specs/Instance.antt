-- Instances of scheme letters.
use Rattle.std.specs.Prelude.{List, map, Option, Some, None}
use Rattle.mz_logic.specs.Term.{Term, Terms, Bound, Const, App, none, more, list_of, terms_of}
use Rattle.mz_logic.specs.Formula.{Formula, Truth, Eq, Atom, Not, And, All}
use Rattle.mz_logic.specs.Substitution.{substitute, substitute_formula, argument_at}
use Rattle.mz_logic.specs.Letters.{term_for, formula_for}
use Rattle.mz_logic.specs.declared.sym.Sym.{Sym}
use Rattle.mz_logic.specs.declared.letters.Letter.{Letter}

-- an application: the body with the arguments where the symbol is a letter that has one
abbrev pub term_or : Option Term → Sym → List Term → Term
term_or None s args = App s (terms_of args)
term_or (Some body) s args = substitute 0 (argument_at args) body

abbrev pub formula_or : Option Formula → Sym → List Term → Formula
formula_or None s args = Atom s args
formula_or (Some body) s args = substitute_formula 0 (argument_at args) body

-- the instance of a term by letters
abbrev mutual
  pub term_instance : List Letter → Term → Term
  term_instance ls (Bound index) = Bound index
  term_instance ls (Const number) = Const number
  term_instance ls (App s ts) = term_or (term_for s ls) s (list_of (args_instance ls ts))

  pub args_instance : List Letter → Terms → Terms
  args_instance ls none = none
  args_instance ls (more t ts) = more (term_instance ls t) (args_instance ls ts)

-- the instance of a formula by letters
abbrev pub instance : List Letter → Formula → Formula
instance ls Truth = Truth
instance ls (Eq t u) = Eq (term_instance ls t) (term_instance ls u)
instance ls (Atom s ts) = formula_or (formula_for s ls) s (map (term_instance ls) ts)
instance ls (Not f) = Not (instance ls f)
instance ls (And f g) = And (instance ls f) (instance ls g)
instance ls (All f) = All (instance ls f)
