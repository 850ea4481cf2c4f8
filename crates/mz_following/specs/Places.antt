-- Parts of a statement over the arguments of a letter's application there.
use Rattle.std.specs.Prelude.{ℕ, zero, suc, Bool, true, false, ◌&&◌, not, nat_eq, if◌then◌else◌, List, [], ◌∷◌, length, Option, Some, None}
use Rattle.std.specs.List.{list_any}
use Rattle.mz_logic.specs.Term.{Term, Bound, Const, App}
use Rattle.mz_logic.specs.Formula.{Formula}
use Rattle.mz_logic.specs.Indices.{is_below, formula_below}
use Rattle.mz_logic.specs.Substitution.{substitute, substitute_formula}

-- the term is the variable with this index
abbrev pub is_variable : ℕ → Term → Bool
is_variable index (Bound other) = nat_eq other index
is_variable index (Const number) = false
is_variable index (App s ts) = false

-- the terms are distinct variables
abbrev pub are_distinct_variables : List Term → Bool
are_distinct_variables [] = true
are_distinct_variables (Bound index ∷ ts) = not (list_any (is_variable index) ts) && are_distinct_variables ts
are_distinct_variables (Const number ∷ ts) = false
are_distinct_variables (App s us ∷ ts) = false

-- how many arguments stand before the variable; their number where it is none of them
abbrev pub place_among : List Term → ℕ → ℕ
place_among [] index = zero
place_among (t ∷ ts) index = if is_variable index t then zero else suc (place_among ts index)

abbrev pub place_of : List Term → ℕ → Term
place_of args index = Bound (place_among args index)

-- the part with each variable bound around it as its place among the arguments: a body of the letter
abbrev pub term_over : List Term → Term → Term
term_over args part = substitute 0 (place_of args) part

abbrev pub formula_over : List Term → Formula → Formula
formula_over args part = substitute_formula 0 (place_of args) part

-- a letter with these arguments may stand for the part: they are distinct variables, and the part has no other variable that is
-- bound around it
abbrev pub may_be_term : List Term → Term → Bool
may_be_term args part = are_distinct_variables args && is_below (length args) (term_over args part)

abbrev pub may_be_formula : List Term → Formula → Bool
may_be_formula args part = are_distinct_variables args && formula_below (length args) (formula_over args part)

abbrev pub kept_if : {X : Type 0} → Bool → X → Option X
kept_if true x = Some x
kept_if false x = None

-- what a letter with these arguments stands for beside the part, where it may stand for it
abbrev pub term_beside : List Term → Term → Option Term
term_beside args part = kept_if (may_be_term args part) (term_over args part)

abbrev pub formula_beside : List Term → Formula → Option Formula
formula_beside args part = kept_if (may_be_formula args part) (formula_over args part)
