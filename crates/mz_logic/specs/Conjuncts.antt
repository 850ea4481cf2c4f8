-- Conjuncts that are compared side by side.
use Rattle.std.specs.Prelude.{◌≡◌, ℕ, ◌+◌, List, [], ◌∷◌}
use Rattle.mz_logic.specs.Formula.{Formula, Truth, Eq, Atom, Not, And, All}
use Rattle.mz_logic.specs.FormulaStorage.{formula_size}
use Rattle.mz_logic.specs.Same.{grouped, normal_form}

-- the normal form of a conjunction
unfoldable pub conjunction : Formula → List Formula → Formula
conjunction f [] = normal_form f
conjunction f (g ∷ gs) = grouped (normal_form f) (conjunction g gs)

-- neither a conjunction nor a double negation
abbrev pub IsPlain : Formula → Type 0
IsPlain Truth = Unit {0}
IsPlain (Eq t u) = Unit {0}
IsPlain (Atom s ts) = Unit {0}
IsPlain (Not Truth) = Unit {0}
IsPlain (Not (Eq t u)) = Unit {0}
IsPlain (Not (Atom s ts)) = Unit {0}
IsPlain (Not (Not f)) = ⊥
IsPlain (Not (And f g)) = Unit {0}
IsPlain (Not (All f)) = Unit {0}
IsPlain (And f g) = ⊥
IsPlain (All f) = Unit {0}

-- the rests are equal as conjunctions
abbrev pub RestsAgree : List Formula → List Formula → Type 0
RestsAgree [] [] = Unit {0}
RestsAgree [] (g ∷ gs) = ⊥
RestsAgree (f ∷ fs) [] = ⊥
RestsAgree (f ∷ fs) (g ∷ gs) = conjunction f fs ≡ conjunction g gs

abbrev pub rest_size : List Formula → ℕ
rest_size [] = 0
rest_size (f ∷ fs) = formula_size f + rest_size fs
