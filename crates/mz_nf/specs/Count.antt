-- How many disjuncts there are, counted without making any.
use Rattle.std.specs.Prelude.{ℕ, ◌+◌, ◌*◌, Bool, true, false, List, [], ◌∷◌}
use Rattle.mz_logic.specs.Capped.{capped}
use Rattle.mz_logic.specs.Formula.{Formula, Truth, Eq, Atom, Not, And, All}
use Rattle.mz_nf.specs.declared.problem.Problem.{Problem}
use Rattle.mz_nf.specs.Problem.{parts_of}

-- how many disjuncts a formula has, or where s is false its negation, equal ones included
abbrev pub count : Bool → Formula → ℕ
count true Truth = 1
count false Truth = 0
count true (Eq t u) = 1
count false (Eq t u) = 1
count true (Atom s ts) = 1
count false (Atom s ts) = 1
count true (Not f) = count false f
count false (Not f) = count true f
count true (And f g) = count true f * count true g
count false (And f g) = count false f + count false g
count true (All b) = 1
count false (All b) = count false b

-- how many a list of formulas has, as one conjunction
abbrev pub count_all : List Formula → ℕ
count_all [] = 1
count_all (f ∷ fs) = count true f * count_all fs

-- the count of a problem, or 1,000,000,000 where it is greater
abbrev pub count_of : Problem → ℕ
count_of p = capped (count_all (parts_of p))
