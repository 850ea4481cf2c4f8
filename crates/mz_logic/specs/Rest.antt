-- The conjuncts of a list on the stack.
use Rattle.std.specs.Prelude.{List, [], ◌∷◌}
use Rattle.mz_logic.specs.Formula.{Formula}
use Rattle.mz_logic.specs.declared.sameness.Rest.{Rest}
use Rattle.mz_logic.specs.declared.sameness.Rest.TheVariants.{End, Then'}

abbrev pub list_of : Rest → List Formula
list_of End = []
list_of (Then' f p r) = f.now ∷ list_of r
