-- Constants that don't occur in a statement.
use Rattle.std.specs.Prelude.{ℕ, Bool, not}
use Rattle.mz_logic.specs.Term.{Term}
use Rattle.mz_logic.specs.Constants.{occurs}
use Rattle.mz_core.specs.Statement.{Statement}
use Rattle.mz_core.specs.Everywhere.{statement_all}

-- the constant c doesn't occur in the term, however many binders are above
abbrev pub term_lacks : ℕ → ℕ → Term → Bool
term_lacks c n t = not (occurs c t)

-- the constant c occurs in no term of the statement
abbrev pub statement_lacks : ℕ → Statement → Bool
statement_lacks c s = statement_all (term_lacks c) 0 s
