-- Iterative equalities: t0 = t1 .= t2 .= .. .= tn.
use Rattle.std.specs.Prelude.{List, [], ◌∷◌}
use Rattle.mz_logic.specs.Term.{Term}
use Rattle.mz_core.specs.Statement.{Statement, Eq}

-- the equations of neighbours, each of which has to be justified
abbrev pub neighbours : Term → List Term → List Statement
neighbours t [] = []
neighbours t (u ∷ us) = Eq t u ∷ neighbours u us

abbrev pub last_of : Term → List Term → Term
last_of t [] = t
last_of t (u ∷ us) = last_of u us

-- what is stated: the first side is equal to the last
abbrev pub ends_equal : Term → List Term → Statement
ends_equal t us = Eq t (last_of t us)
