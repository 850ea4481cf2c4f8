-- Statements without types.
use Rattle.mz_logic.specs.Formula as formula
use Rattle.mz_logic.specs.Formula.{Formula}
use Rattle.mz_logic.specs.Negation.{negated}
use Rattle.mz_core.specs.Statement.{Statement, Truth, Eq, Atom, Not, And, For}
use Rattle.mz_core.specs.Connectives.{for_type}

-- the statement with the guards of its quantifiers in place of their types, and no double negation
abbrev pub erase : Statement → Formula
erase Truth = formula.Truth
erase (Eq t u) = formula.Eq t u
erase (Atom s ts) = formula.Atom s ts
erase (Not s) = negated (erase s)
erase (And s t) = formula.And (erase s) (erase t)
erase (For ty s) = for_type ty (erase s)
