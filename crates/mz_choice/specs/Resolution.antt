-- What an applied symbol reads to, or why it reads to nothing.
use Rattle.std.specs.Prelude.{◌≡◌, true, false, List, Some, None}
use Rattle.std.specs.List.{list_any}
use Rattle.mz_core.specs.declared.notation.Meaning.{Meaning}
use Rattle.mz_context.specs.declared.context.Context.{Context}
use Rattle.mz_ground.specs.declared.clause.Clause.{Clause}
use Rattle.mz_environment.specs.declared.environment.Environment.{Environment}
pub use Rattle.mz_types.specs.Known.{typing}
use Rattle.mz_choice.specs.declared.choice.Applied.{Applied}
use Rattle.mz_choice.specs.declared.choice.Wanted.{Wanted}
use Rattle.mz_choice.specs.declared.resolve.Resolution.{Resolution}
use Rattle.mz_choice.specs.declared.resolve.Resolution.TheVariants.{ReadsTo, UnknownSymbol, NoNotation, UnfitArgument}
use Rattle.mz_choice.specs.Choice.{is_of_symbol, is_candidate, Chosen}

-- the symbol has no notation; it has some, and none with these numbers of arguments; there are candidates, and none
-- passes; or the latest candidate that passes gives what it reads to
pub data Resolves (cs : List Clause) (e : Environment) (c : Context) (w : Wanted) (a : Applied) : Resolution → Type 0 where
  unknown_symbol : list_any (is_of_symbol a) e.notations ≡ false → Resolves cs e c w a UnknownSymbol
  no_notation : list_any (is_of_symbol a) e.notations ≡ true → list_any (is_candidate a) e.notations ≡ false → Resolves cs e c w a NoNotation
  unfit_argument : list_any (is_candidate a) e.notations ≡ true → Chosen cs e c w a None → Resolves cs e c w a UnfitArgument
  reads_to : (m : Meaning) → Chosen cs e c w a (Some m) → Resolves cs e c w a (ReadsTo m)
