-- Lists of formulas, and sequents.
use Rattle.std.specs.Prelude.{List, Contains}
use Rattle.mz_logic.specs.Formula.{Formula}
use Rattle.mz_logic.specs.declared.sequent.Sequent.{Sequent}

-- f is a member
unfoldable pub IsMember : List Formula → Formula → Type 0
IsMember fs f = Contains fs f

-- the sequent of f from premises
abbrev pub sequent : List Formula → Formula → Sequent
sequent premises f = record { premises = premises; conclusion = f }
