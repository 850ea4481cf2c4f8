-- Types and statements whose free indices are below a number; they may have constants.
use Rattle.std.specs.Prelude.{ℕ, Bool}
use Rattle.mz_logic.specs.Indices.{is_below}
use Rattle.mz_core.specs.Statement.{Statement}
use Rattle.mz_core.specs.Everywhere.{type_all, statement_all}
use Rattle.mz_core.specs.declared.soft_type.SoftType.{SoftType}

abbrev pub type_below : ℕ → SoftType → Bool
type_below n ty = type_all is_below n ty

abbrev pub statement_below : ℕ → Statement → Bool
statement_below n s = statement_all is_below n s
