-- The parts of a statement are smaller than the statement.
use Rattle.std.specs.Prelude.{◌≤◌, max}
use Rattle.std.proofs.Common.{arith}
use Rattle.mz_core.specs.declared.statement.StatementNode.{StatementNode}
use Rattle.mz_core.specs.declared.statement.StatementNode.TheVariants.{Truth, Eq, Atom, Not, And, For}
use Rattle.mz_core.specs.declared.statement.Statement.TheDeep.{deep-StatementNode}
use Rattle.mz_core.specs.StatementStorage.{statement_size}
use Rattle.mz_core.specs.StatementView.{statement_of}

pub statement_decreases : (n : StatementNode) → max (deep-StatementNode n) 0 ≤ statement_size (statement_of n)
statement_decreases Truth = omega arith
statement_decreases (Eq t u) = omega arith
statement_decreases (Atom s ts) = omega arith
statement_decreases (Not s) = omega arith
statement_decreases (And s t) = omega arith
statement_decreases (For ty s) = omega arith
