-- Classes that agree with the assignments of a formula's variables.
use Rattle.std.specs.Prelude.{◌≡◌, ℕ, None, Some, List, [], ◌∷◌}
use Rattle.mz_match.specs.Rows.{SomeOf}
use Rattle.mz_match.specs.Slots.{Assignment}

-- the slots that have a class have that of the variable
abbrev pub Fits : Assignment → List ℕ → Type 0
Fits [] [] = Unit {0}
Fits [] (v ∷ a) = ⊥
Fits (x ∷ e) [] = ⊥
Fits (None ∷ e) (v ∷ a) = Fits e a
Fits (Some w ∷ e) (v ∷ a) = (w ≡ v) × Fits e a

abbrev pub Covered : List Assignment → List ℕ → Type 0
Covered es a = SomeOf (λ e. Fits e a) es
