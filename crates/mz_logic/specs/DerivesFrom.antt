-- What derives from properties of formulas: some list of axioms with the one and some list of premises
-- with the other derive it.
use Rattle.std.specs.Prelude.{◌≡◌, ◌⊎◌, List, [], ◌∷◌, All}
use Rattle.mz_logic.specs.Formula.{Formula}
use Rattle.mz_logic.specs.Derives.{Derives}

-- some axioms with A derive f from some premises with P
pub record DerivesFrom (A P : Formula → Type 0) (f : Formula) : Type 0 where
  pub axioms : List Formula
  pub premises : List Formula
  pub are_axioms : All A axioms
  pub are_premises : All P premises
  pub derives : Derives axioms premises f

-- each formula of the list derives
abbrev pub AllDerive : (Formula → Type 0) → (Formula → Type 0) → List Formula → Type 0
AllDerive A P [] = Unit {0}
AllDerive A P (f ∷ fs) = DerivesFrom A P f × AllDerive A P fs

-- no formula
abbrev pub IsNone : Formula → Type 0
IsNone k = ⊥

-- a formula with P, or f
abbrev pub Adjoined : (Formula → Type 0) → Formula → Formula → Type 0
Adjoined P f k = P k ⊎ (k ≡ f)

-- what the function makes of a formula with P
abbrev pub IsImage : (Formula → Formula) → (Formula → Type 0) → Formula → Type 0
IsImage change P k = (f : Formula) × P f × (k ≡ change f)
