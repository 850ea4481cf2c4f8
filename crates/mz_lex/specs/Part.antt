-- The part of a text that is cut, as the code keeps it.
use Rattle.std.specs.Prelude.{ℕ, Bool, false, if◌then◌else◌, List}
use Rattle.mz_lex.specs.declared.lexeme.Lexeme.{Lexeme}
use Rattle.mz_lex.specs.declared.piece.Part.{Part}
use Rattle.mz_lex.specs.declared.piece.Part.TheVariants.{HeadAlone, Head, Behind}
use Rattle.mz_lex.specs.Cut.{Mode, Same, Stop, Switch, is_begin}

-- the symbols of the part
abbrev pub symbols_of : Part → List Lexeme → List Lexeme → List Lexeme
symbols_of HeadAlone built_in later = built_in
symbols_of Head built_in later = built_in
symbols_of Behind built_in later = later

abbrev pub mode_of : Part → List Lexeme → Mode
mode_of HeadAlone later = Stop
mode_of Head later = Switch later
mode_of Behind later = Same

-- whether the cut ends with this spelling
abbrev pub ends_at : Part → List ℕ → Bool
ends_at HeadAlone spelling = is_begin spelling
ends_at Head spelling = false
ends_at Behind spelling = false

-- the part behind this spelling
abbrev pub part_behind : Part → List ℕ → Part
part_behind HeadAlone spelling = HeadAlone
part_behind Head spelling = if is_begin spelling then Behind else Head
part_behind Behind spelling = Behind
