-- Laws of what derives from properties of formulas.
use Rattle.std.specs.Prelude.{◌≡◌, ℕ, map, true, false}
use Rattle.mz_logic.specs.Term.{Term, Const}
use Rattle.mz_logic.specs.Formula.{Formula, Not, All}
use Rattle.mz_logic.specs.Indices.{closed}
use Rattle.mz_logic.specs.Constants.{occurs_in_formula}
use Rattle.mz_logic.specs.Substitution.{body_at}
use Rattle.mz_logic.specs.Negation.{negated}
use Rattle.mz_logic.specs.Same.{IsSame}
use Rattle.mz_logic.specs.DerivesFrom.{DerivesFrom, AllDerive, Adjoined}
use Rattle.mz_core.specs.Statement.{Statement}
use Rattle.mz_core.specs.Parts.{parts}
use Rattle.mz_core.specs.Erasure.{erase}

-- an existential, whose inner negation is dropped where it is a double one, at a closed term; and an object of
-- it, which is a constant that occurs in no premise and not in what is to derive
abbrev pub ExistentialFormLaw : (Formula → Type 0) → (Formula → Type 0) → Type 0
ExistentialFormLaw A P =
    ((b : Formula) (t : Term) → closed t ≡ true → DerivesFrom A P (body_at b t) → DerivesFrom A P (Not (All (negated b)))) ×
    ((b g : Formula) (c : ℕ) → ((k : Formula) → P k → occurs_in_formula c k ≡ false) → occurs_in_formula c b ≡ false → occurs_in_formula c g ≡ false → DerivesFrom A P (Not (All (negated b))) → DerivesFrom A (Adjoined P (body_at b (Const c))) g → DerivesFrom A P g)

-- what derives, derives in each form that is the same
abbrev pub SameFormLaw : (Formula → Type 0) → (Formula → Type 0) → Type 0
SameFormLaw A P = (f g : Formula) → IsSame f g → DerivesFrom A P f → DerivesFrom A P g

-- a statement derives exactly where each of its parts does
abbrev pub PartsLaw : (Formula → Type 0) → (Formula → Type 0) → Type 0
PartsLaw A P =
    ((s : Statement) → DerivesFrom A P (erase s) → AllDerive A P (map erase (parts s))) ×
    ((s : Statement) → AllDerive A P (map erase (parts s)) → DerivesFrom A P (erase s))
