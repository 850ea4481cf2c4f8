-- Where a list comma goes on a formula.
use Rattle.std.specs.Prelude.{◌≡◌, Bool, true, List, ◌∷◌, ◌++◌}
use Rattle.mz_base.specs.declared.place.Place.{Place}
use Rattle.mz_base.specs.declared.token.MarkedToken.{MarkedToken}
use Rattle.mz_tree.specs.Spelled.{list_comma}
use Rattle.mz_tree.specs.Trees.{FormulaData}
use Rattle.mz_tree.specs.Spell.{spell_formula}
use Rattle.mz_tree.specs.Rules.{IsFormula}
use Rattle.mz_tree_heading.specs.Rules.{formula_ends_in_terms}

-- A formula that a list comma takes to a longer formula ends in a list of terms.
abbrev pub BehindTermsAlone : Bool → Type 0
BehindTermsAlone field = (f g : FormulaData) (p : Place) (more : List MarkedToken) → IsFormula field f → IsFormula field g → spell_formula g ≡ spell_formula f ++ list_comma p ∷ more → formula_ends_in_terms f ≡ true

-- A list comma takes each formula that ends in a list of terms to a longer one.
abbrev pub BehindTermsAlways : Bool → Type 0
BehindTermsAlways field = (f : FormulaData) (p : Place) → IsFormula field f → formula_ends_in_terms f ≡ true → (g : FormulaData) × (more : List MarkedToken) × IsFormula field g × (spell_formula g ≡ spell_formula f ++ list_comma p ∷ more)
