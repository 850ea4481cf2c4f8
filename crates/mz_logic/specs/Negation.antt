-- Negations.
use Rattle.mz_logic.specs.Formula.{Formula, Truth, Eq, Atom, Not, And, All}

-- falsity is the negation of truth
abbrev pub falsity : Formula
falsity = Not Truth

-- the negation of a formula, without a double one
abbrev pub negated : Formula → Formula
negated Truth = Not Truth
negated (Eq t u) = Not (Eq t u)
negated (Atom s ts) = Not (Atom s ts)
negated (Not f) = f
negated (And f g) = Not (And f g)
negated (All f) = Not (All f)
