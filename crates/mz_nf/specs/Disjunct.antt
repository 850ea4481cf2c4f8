-- Disjuncts of one part, of two parts, and what a disjunct says.
use Rattle.std.specs.Prelude.{List, [], ◌∷◌, ◌++◌, map}
use Rattle.std.specs.List.{flat_map}
use Rattle.mz_logic.specs.Formula.{Formula}
use Rattle.mz_logic.specs.Literal.{literal_formula}
use Rattle.mz_logic.specs.declared.literal.Literal.{Literal}
use Rattle.mz_logic.specs.declared.disjunct.Disjunct.{Disjunct}

-- neither a literal nor a universal
abbrev pub empty : Disjunct
empty = record { literals = []; universals = [] }

-- one literal
abbrev pub of_literal : Literal → Disjunct
of_literal l = record { literals = l ∷ []; universals = [] }

-- one universal
abbrev pub of_universal : Formula → Disjunct
of_universal f = record { literals = []; universals = f ∷ [] }

-- the literals of both and the universals of both, those of the first before those of the second
abbrev pub joined : Disjunct → Disjunct → Disjunct
joined d e = record { literals = d.literals ++ e.literals; universals = d.universals ++ e.universals }

-- each of the first joined with each of the second, the first varying slowest
abbrev pub pairs : List Disjunct → List Disjunct → List Disjunct
pairs ds es = flat_map (λ d. map (joined d) es) ds

-- what a disjunct says: its literals as formulas, and its universals
abbrev pub formulas_of : Disjunct → List Formula
formulas_of d = map literal_formula d.literals ++ d.universals
