-- What a node of a statement is seen as.
use Rattle.mz_core.specs.Statement as statement
use Rattle.mz_core.specs.Statement.{Statement}
use Rattle.mz_core.specs.declared.statement.StatementNode.{StatementNode}
use Rattle.mz_core.specs.declared.statement.StatementNode.TheVariants.{Truth, Eq, Atom, Not, And, For}

abbrev pub statement_of : StatementNode → Statement
statement_of Truth = statement.Truth
statement_of (Eq t u) = statement.Eq t u
statement_of (Atom s ts) = statement.Atom s ts
statement_of (Not s) = statement.Not s.value
statement_of (And s t) = statement.And s.value t.value
statement_of (For ty s) = statement.For ty s.value
