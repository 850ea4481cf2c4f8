-- Known symbols by their spelling.
use Rattle.std.specs.Prelude.{◌≡◌, ℕ, Bool, false, not, List, find, Option, Some, None}
use Rattle.std.specs.Option.{option_map}
use Rattle.std.specs.Str.{bytes_eq}
use Rattle.mz_base.specs.declared.symbol_kind.SymbolKind.{SymbolKind}
use Rattle.mz_voc.specs.declared.vocabulary.Entry.{Entry}
use Rattle.mz_voc.specs.declared.spelled.Spelled.{Spelled}
use Rattle.mz_voc.specs.Spelled.{value_of}
use Rattle.mz_lex.specs.Table.{same_kind, clashes}

-- the kind of the first symbol with the spelling
abbrev pub kind_in : List Entry → List ℕ → Option SymbolKind
kind_in known spelling = option_map (λ e. e.kind) (find (λ e. bytes_eq e.spelling spelling) known)

-- there is a kind, and it is another
abbrev pub differs : Option SymbolKind → SymbolKind → Bool
differs None kind = false
differs (Some other) kind = not (same_kind other kind)

-- the kind of each spelling that some symbols have, where none has two
pub record HasKinds (known : List Entry) (kinds : Spelled SymbolKind) : Type 0 where
  pub kind : (spelling : List ℕ) → value_of kinds spelling ≡ kind_in known spelling
  pub one : (entry : Entry) → clashes known entry ≡ differs (kind_in known entry.spelling) entry.kind
