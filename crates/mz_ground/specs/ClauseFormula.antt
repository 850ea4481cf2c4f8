-- Clauses as formulas.
use Rattle.std.specs.Prelude.{◌≡◌, ℕ, false, not, List, [], ◌∷◌, ◌++◌, map}
use Rattle.std.specs.List.{list_any}
use Rattle.mz_logic.specs.Connectives.{quantified, joined_to}
use Rattle.mz_logic.specs.Constants.{occurs_in_formula}
use Rattle.mz_logic.specs.Formula.{Formula, Not}
use Rattle.mz_logic.specs.Literal.{literal_formula}
use Rattle.mz_logic.specs.declared.literal.Literal.{Literal}
use Rattle.mz_logic.specs.declared.literal.Literal.TheVariants.{Atom, Eq}
use Rattle.mz_ground.specs.declared.clause.Clause.{Clause}

-- the literal with the other sign
abbrev pub complement : Literal → Literal
complement (Atom positive s ts) = Atom (not positive) s ts
complement (Eq positive t u) = Eq (not positive) t u

-- the conclusion, where the premises hold
abbrev pub implication : List Literal → Literal → Formula
implication [] conclusion = literal_formula conclusion
implication (l ∷ ls) conclusion = Not (joined_to (literal_formula l) (map literal_formula ls ++ literal_formula (complement conclusion) ∷ []))

-- the clause holds for all terms in place of its variables
abbrev pub clause_formula : Clause → Formula
clause_formula c = quantified c.variables (implication c.premises c.conclusion)

-- no clause, read as a formula, has a constant
abbrev pub HaveNoConstants : List Clause → Type 0
HaveNoConstants cs = (c : ℕ) → list_any (occurs_in_formula c) (map clause_formula cs) ≡ false
