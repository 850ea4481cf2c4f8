-- What is to be refuted under classes for the variables.
use Rattle.std.specs.Prelude.{ℕ, ◌<◌, ◌+◌, Bool, List, [], ◌∷◌, map}
use Rattle.std.specs.List.{AllByRecursion}
use Rattle.mz_logic.specs.Formula.{Formula}
use Rattle.mz_logic.specs.FormulaStorage.{formula_size}
use Rattle.mz_match.specs.declared.row.Head.{Head}
use Rattle.mz_match.specs.declared.row.Row.{Row}
use Rattle.mz_match.specs.declared.table.Table.{Table}
use Rattle.mz_search.specs.declared.goal.Goal as code
use Rattle.mz_match.specs.RowsRefuted.{RowsRefute}
use Rattle.mz_match.specs.Table.{rows_of}

-- the rows, the classes of all terms, the listed universals
pub record Known : Type 0 where
  pub rows : Head → List Row
  pub values : List ℕ
  pub universals : List Formula

abbrev pub known : Table → List ℕ → List Formula → Known
known table values us = record { rows = rows_of table; values = values; universals = us }

-- refute the formula, or its negation where the sign is false; its variables stand at these places, innermost first
pub data Goal : Type 0 where
  Refute : List ℕ → Bool → Formula → Goal

abbrev pub goal_of : code.Goal → Goal
goal_of g = Refute g.scope.items g.positive g.formula.now

-- the classes do what the goal asks for
unfoldable pub Meets : Known → (ℕ → ℕ) → Goal → Type 0
Meets k a (Refute scope s f) = RowsRefute k.rows k.values k.universals s (map a scope) f

-- the places of the goal's variables are below n
abbrev pub IsBelow : ℕ → Goal → Type 0
IsBelow n (Refute scope s f) = AllByRecursion (λ i. i < n) scope

-- how large the formulas are
abbrev pub size_of : Goal → ℕ
size_of (Refute scope s f) = formula_size f

abbrev pub sizes : List Goal → ℕ
sizes [] = 0
sizes (g ∷ gs) = size_of g + sizes gs
