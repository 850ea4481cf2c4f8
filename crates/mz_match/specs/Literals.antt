-- Literals, and the assignments that refute them.
use Rattle.std.specs.Prelude.{ℕ, Bool, true, false, List, [], ◌++◌, flat_map}
use Rattle.mz_logic.specs.Term.{none, more, terms_of}
use Rattle.mz_logic.specs.Formula.{Formula, Truth, Eq, Atom, Not, And, All}
use Rattle.mz_match.specs.Slots.{Assignment}
use Rattle.mz_match.specs.Matches.{match_rows, match_equal, congruent_formula}
use Rattle.mz_match.specs.declared.row.Head.TheVariants.{Holds, Fails, Disequal}
use Rattle.mz_match.specs.declared.table.Table.{Table}

-- the assignments that refute a literal, truth or a negated universal
abbrev pub match_literal : Table → List ℕ → List Formula → Bool → Formula → List Assignment → List Assignment
match_literal table values us true (Eq t u) es = match_rows table Disequal (more t (more u none)) es ++ match_rows table Disequal (more u (more t none)) es
match_literal table values us false (Eq t u) es = match_equal table values t u es
match_literal table values us true (Atom s ts) es = match_rows table (Fails s) (terms_of ts) es
match_literal table values us false (Atom s ts) es = match_rows table (Holds s) (terms_of ts) es
match_literal table values us false Truth es = es
match_literal table values us false (All b) es = flat_map (λ u. congruent_formula table 0 true (All b) true u es) us
match_literal table values us s f es = []

-- truth, an equation, an atom, or a negated universal
abbrev pub IsLiteral : Bool → Formula → Type 0
IsLiteral s Truth = Unit {0}
IsLiteral s (Eq t u) = Unit {0}
IsLiteral s (Atom p ts) = Unit {0}
IsLiteral s (Not f) = ⊥
IsLiteral s (And f g) = ⊥
IsLiteral true (All b) = ⊥
IsLiteral false (All b) = Unit {0}
