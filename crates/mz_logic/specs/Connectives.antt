-- Conjunctions of lists, implications and quantifiers in a row.
use Rattle.std.specs.Prelude.{ℕ, zero, suc, List, [], ◌∷◌}
use Rattle.mz_logic.specs.Formula.{Formula, Truth, Not, And, All}
use Rattle.mz_logic.specs.Negation.{negated}

-- f & g1 & .. & gn, grouped to the left
abbrev pub joined_to : Formula → List Formula → Formula
joined_to f [] = f
joined_to f (g ∷ gs) = joined_to (And f g) gs

-- the conjunction, grouped to the left; truth where there is nothing to join
abbrev pub joined : List Formula → Formula
joined [] = Truth
joined (f ∷ fs) = joined_to f fs

-- not (f & not g), without a double negation
abbrev pub implies : Formula → Formula → Formula
implies f g = Not (And f (negated g))

-- `count` quantifiers, one within the other
abbrev pub quantified : ℕ → Formula → Formula
quantified zero f = f
quantified (suc count) f = quantified count (All f)
