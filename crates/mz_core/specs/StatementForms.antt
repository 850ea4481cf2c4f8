-- Statements of compound forms. No double negation arises.
use Rattle.mz_core.specs.Statement.{Statement, Truth, Eq, Atom, Not, And, For}
use Rattle.mz_core.specs.declared.soft_type.SoftType.{SoftType}

-- not s
abbrev pub opposite : Statement → Statement
opposite Truth = Not Truth
opposite (Eq t u) = Not (Eq t u)
opposite (Atom s ts) = Not (Atom s ts)
opposite (Not s) = s
opposite (And s t) = Not (And s t)
opposite (For ty s) = Not (For ty s)

-- s or t: not (not s & not t)
abbrev pub disjunction : Statement → Statement → Statement
disjunction s t = Not (And (opposite s) (opposite t))

-- s implies t: not (s & not t)
abbrev pub implication : Statement → Statement → Statement
implication s t = Not (And s (opposite t))

-- s iff t: (s implies t) & (t implies s)
abbrev pub equivalence : Statement → Statement → Statement
equivalence s t = And (implication s t) (implication t s)

-- ex x being T st s: not for x being T holds not s
abbrev pub for_some : SoftType → Statement → Statement
for_some ty s = Not (For ty (opposite s))
