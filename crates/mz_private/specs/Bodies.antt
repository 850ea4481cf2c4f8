-- Bodies: what was read where the places were constants, as it stands under the places.
use Rattle.std.specs.Prelude.{ℕ, zero, suc, ◌+◌}
use Rattle.mz_logic.specs.Abstraction.{term_over}
use Rattle.mz_logic.specs.Term.{Term}
use Rattle.mz_core.specs.Abstraction.{statement_over}
use Rattle.mz_core.specs.Statement.{Statement}

-- a term and a statement under so many places, which were the constants from `least` on: each place is an index, the first one 0
abbrev pub term_over_places : ℕ → ℕ → Term → Term
term_over_places least zero t = t
term_over_places least (suc k) t = term_over_places least k (term_over (least + k) 0 t)

abbrev pub statement_over_places : ℕ → ℕ → Statement → Statement
statement_over_places least zero s = s
statement_over_places least (suc k) s = statement_over_places least k (statement_over (least + k) 0 s)
