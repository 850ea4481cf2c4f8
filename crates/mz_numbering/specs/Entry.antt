-- The parts of the entry of a ground term.
use Rattle.std.specs.Prelude.{ℕ, List, [], Option, None, Some}
use Rattle.mz_logic.specs.declared.sym.Sym.{Sym}
use Rattle.mz_ground.specs.declared.ground_term.GroundTerm.{GroundTerm}
use Rattle.mz_ground.specs.declared.ground_term.GroundTerm.TheVariants.{Const, App}

abbrev pub symbol_in : Option GroundTerm → Option Sym
symbol_in None = None
symbol_in (Some (Const number)) = None
symbol_in (Some (App sym args)) = Some sym

abbrev pub constant_in : Option GroundTerm → ℕ
constant_in None = 0
constant_in (Some (Const number)) = number
constant_in (Some (App sym args)) = 0

abbrev pub args_in : Option GroundTerm → List ℕ
args_in None = []
args_in (Some (Const number)) = []
args_in (Some (App sym args)) = args
