-- What a split into cases owes.
use Rattle.std.specs.Prelude.{List, [], ◌∷◌}
use Rattle.mz_core.specs.Statement.{Statement}
use Rattle.mz_core.specs.StatementForms.{disjunction}

-- s or t1 or .. or tn, grouped to the left
abbrev pub disjunction_to : Statement → List Statement → Statement
disjunction_to s [] = s
disjunction_to s (t ∷ ts) = disjunction_to (disjunction s t) ts
