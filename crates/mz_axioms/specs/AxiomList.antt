-- The seven axioms, as formulas.
use Rattle.std.specs.Prelude.{List, [], ◌∷◌}
use Rattle.mz_logic.specs.Formula.{Formula}
use Rattle.mz_core.specs.Erasure.{erase}
use Rattle.mz_items.specs.SchemeRows.{axiom_scheme_grant}
use Rattle.mz_axioms.specs.Axioms.{objects_are_sets, extensionality, pairs, unions, regularity, replacement, universes}

-- the seven axioms
unfoldable pub axioms : List Formula
axioms =
    erase objects_are_sets ∷ erase extensionality ∷ erase pairs ∷ erase unions ∷ erase regularity ∷ erase (axiom_scheme_grant replacement) ∷ erase universes ∷ []
