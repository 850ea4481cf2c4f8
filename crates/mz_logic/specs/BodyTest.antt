-- A word for the test of bodies.
use Rattle.std.specs.Prelude.{ℕ, [], ◌∷◌}
use Rattle.mz_logic.specs.Term.{Term}
use Rattle.mz_logic.specs.Substitution.{value_at}

-- the values at one term
unfoldable pub at_one : Term → ℕ → Term
at_one t = value_at (t ∷ [])
