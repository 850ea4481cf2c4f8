-- Which words are options.
use Rattle.std.specs.Prelude.{ℕ, if◌then◌else◌, List, codes, nat_eq}
use Rattle.std.specs.List.{starts_with}
use Rattle.std.specs.Str.{bytes_eq}

-- `--`, behind which every word is a name; an option alone, with its value in the next word where it has one; an option
-- with its value behind `=`; any other word
pub data OptionWord : Type 0 where
  Separator : OptionWord
  ListWord : OptionWord
  WorkersWord : OptionWord
  GenerateWord : OptionWord
  WorkersValue : OptionWord
  GenerateValue : OptionWord
  Other : OptionWord

-- what a word is where any may come
unfoldable pub option_word : List ℕ → OptionWord
option_word w =
    if bytes_eq w (codes "--") then Separator
    else (if bytes_eq w (codes "--list") then ListWord
    else (if bytes_eq w (codes "--workers") then WorkersWord
    else (if bytes_eq w (codes "--generate") then GenerateWord
    else (if starts_with nat_eq w (codes "--workers=") then WorkersValue
    else (if starts_with nat_eq w (codes "--generate=") then GenerateValue
    else Other)))))
