-- When a formula needn't be followed further.
use Rattle.std.specs.Prelude.{◌≡◌, ℕ, Bool, false, List}
use Rattle.mz_logic.specs.Formula.{Formula}
use Rattle.mz_match.specs.declared.row.Head.{Head}
use Rattle.mz_match.specs.declared.row.Row.{Row}
use Rattle.mz_match.specs.Slots.{Assignment}
use Rattle.mz_match.specs.RowsRefuted.{RowsRefute}
use Rattle.mz_match.specs.Fitting.{Covered}

-- b is false only where no classes that fit the assignments refute the formula, or its negation where the sign is false
unfoldable pub MayRefute : (Head → List Row) → List ℕ → List Formula → Bool → Formula → List Assignment → Bool → Type 0
MayRefute rows values us s f es b = b ≡ false → (a : List ℕ) → Covered es a → RowsRefute rows values us s a f → ⊥
