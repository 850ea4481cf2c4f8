-- Conjuncts of statements, and what is said under antecedents.
use Rattle.std.specs.Prelude.{List, [], ◌∷◌, ◌++◌}
use Rattle.mz_core.specs.Statement.{Statement, Truth, Eq, Atom, Not, And, For}
use Rattle.mz_core.specs.StatementForms.{implication}

-- the conjuncts from left to right
abbrev pub parts : Statement → List Statement
parts Truth = Truth ∷ []
parts (Eq t u) = Eq t u ∷ []
parts (Atom s ts) = Atom s ts ∷ []
parts (Not s) = Not s ∷ []
parts (And s t) = parts s ++ parts t
parts (For ty s) = For ty s ∷ []

-- s & t1 & .. & tn, grouped to the left
abbrev pub conjunction_to : Statement → List Statement → Statement
conjunction_to s [] = s
conjunction_to s (t ∷ ts) = conjunction_to (And s t) ts

-- the conjunction, grouped to the left; truth where there is nothing to join
abbrev pub conjunction : List Statement → Statement
conjunction [] = Truth
conjunction (s ∷ ss) = conjunction_to s ss

-- s under the antecedent that joins the statements, where there are any
abbrev pub where_all : List Statement → Statement → Statement
where_all [] s = s
where_all (t ∷ ts) s = implication (conjunction_to t ts) s
