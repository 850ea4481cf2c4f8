-- What a problem says, and which constants it has.
use Rattle.std.specs.Prelude.{ℕ, Bool, ◌||◌, List, [], ◌∷◌, ◌++◌}
use Rattle.std.specs.List.{list_any}
use Rattle.mz_logic.specs.Formula.{Formula, Not}
use Rattle.mz_logic.specs.Constants.{occurs_in_formula}
use Rattle.mz_nf.specs.declared.problem.Problem.{Problem}

-- the premises in their order, and then the negated conclusion
abbrev pub parts_of : Problem → List Formula
parts_of p = p.premises ++ Not p.conclusion ∷ []

-- the constant c occurs in the problem
abbrev pub has_constant : Problem → ℕ → Bool
has_constant p c = list_any (occurs_in_formula c) p.premises || occurs_in_formula c p.conclusion
