-- Formulas that are the same up to association of `&` and double negation.
use Rattle.mz_logic.specs.Formula.{Formula, Truth, Eq, Atom, Not, And, All}
use Rattle.mz_logic.specs.Negation.{negated}

-- the least relation that is an equivalence, holds within formulas, drops double negations and
-- regroups conjunctions
pub data IsSame : Formula → Formula → Type 0 where
  itself : (f : Formula) → IsSame f f
  exchanged : (f g : Formula) → IsSame f g → IsSame g f
  chained : (f g h : Formula) → IsSame f g → IsSame g h → IsSame f h
  not_twice : (f : Formula) → IsSame (Not (Not f)) f
  regrouped : (f g h : Formula) → IsSame (And (And f g) h) (And f (And g h))
  negation : (f g : Formula) → IsSame f g → IsSame (Not f) (Not g)
  conjuncts : (f g h k : Formula) → IsSame f h → IsSame g k → IsSame (And f g) (And h k)
  body : (f g : Formula) → IsSame f g → IsSame (All f) (All g)

-- a conjunction, grouped to the right
abbrev pub grouped : Formula → Formula → Formula
grouped Truth h = And Truth h
grouped (Eq t u) h = And (Eq t u) h
grouped (Atom s ts) h = And (Atom s ts) h
grouped (Not f) h = And (Not f) h
grouped (And f g) h = And f (grouped g h)
grouped (All f) h = And (All f) h

-- the formula with conjunctions grouped to the right and no double negation
abbrev pub normal_form : Formula → Formula
normal_form Truth = Truth
normal_form (Eq t u) = Eq t u
normal_form (Atom s ts) = Atom s ts
normal_form (Not f) = negated (normal_form f)
normal_form (And f g) = grouped (normal_form f) (normal_form g)
normal_form (All f) = All (normal_form f)
