-- The entries of a vocabulary, line by line.
use Rattle.std.specs.Prelude.{◌≡◌, ℕ, ◌+◌, Bool, false, if◌then◌else◌, List, [], ◌∷◌, ◌++◌, length, take, drop, Option, Some, None, position}
use Rattle.std.specs.List.{list_any}
use Rattle.std.specs.Str.{bytes_eq}
use Rattle.mz_base.specs.declared.symbol_kind.SymbolKind.{SymbolKind}
use Rattle.mz_base.specs.declared.symbol_kind.SymbolKind.TheVariants.{Functor}
use Rattle.mz_voc.specs.declared.vocabulary.Entry.{Entry}
use Rattle.mz_voc.specs.declared.line.Line.{Line}
use Rattle.mz_voc.specs.declared.line.Line.TheVariants.{Blank, Good, NoEntry, NoPriority}
use Rattle.mz_voc.specs.declared.voc_fault.VocFault.{VocFault}
use Rattle.mz_voc.specs.declared.voc_fault.VocFault.TheVariants.{BadEntry, BadPriority, Repeated, Memory}
use Rattle.mz_voc.specs.Symbol.{kind_of, is_symbol, priority_of}
use Rattle.mz_voc.specs.Lines.{is_space, lines_of, without_return}

-- a functor with what stands behind its space
abbrev pub with_priority : List ℕ → Option ℕ → Line
with_priority spelling None = NoPriority
with_priority spelling (Some n) = Good (record { kind = Functor; spelling = spelling; priority = n })

-- what stands behind the letter O, with the place of its first space
abbrev pub functor_line : List ℕ → Option ℕ → Line
functor_line bs None = NoEntry
functor_line bs (Some at) = if is_symbol (take at bs) then with_priority (take at bs) (priority_of (drop (at + 1) bs)) else NoEntry

-- what is no symbol behind a letter of this kind
abbrev pub longer_line : SymbolKind → List ℕ → Line
longer_line Functor bs = functor_line bs (position is_space bs)
longer_line _ bs = NoEntry

-- a kind and what stands behind its letter
abbrev pub entry_line : Option SymbolKind → List ℕ → Line
entry_line None bs = NoEntry
entry_line (Some kind) bs = if is_symbol bs then Good (record { kind = kind; spelling = bs; priority = 64 }) else longer_line kind bs

-- what a line says
unfoldable pub line_of : List ℕ → Line
line_of [] = Blank
line_of (letter ∷ bs) = entry_line (kind_of letter) bs

-- the entries on a line: one or none
abbrev pub entries_on : Line → List Entry
entries_on (Good entry) = entry ∷ []
entries_on _ = []

-- the entries on some lines
unfoldable pub entries_of : List (List ℕ) → List Entry
entries_of [] = []
entries_of (line ∷ lines) = entries_on (line_of (without_return line)) ++ entries_of lines

-- some entry has the spelling
abbrev pub is_spelled : List Entry → List ℕ → Bool
is_spelled entries spelling = list_any (λ e. bytes_eq e.spelling spelling) entries

-- the fault of a line with a number, below some entries
abbrev pub fault_on : List Entry → ℕ → Line → Option VocFault
fault_on above number Blank = None
fault_on above number (Good entry) = if is_spelled above entry.spelling then Some (Repeated number) else None
fault_on above number NoEntry = Some (BadEntry number)
fault_on above number NoPriority = Some (BadPriority number)

-- the fault of a line, below some lines
abbrev pub fault_below : List (List ℕ) → List ℕ → Option VocFault
fault_below above line = fault_on (entries_of above) (length above + 1) (line_of (without_return line))

-- no line has a fault
abbrev pub AreRight : List (List ℕ) → Type 0
AreRight lines = (above : List (List ℕ)) (line : List ℕ) (below : List (List ℕ)) → lines ≡ above ++ line ∷ below → fault_below above line ≡ None

-- the fault of the first line that has one
pub record IsFirstFault (lines : List (List ℕ)) (fault : VocFault) : Type 0 where
  pub above : List (List ℕ)
  pub line : List ℕ
  pub below : List (List ℕ)
  pub split : lines ≡ above ++ line ∷ below
  pub right : AreRight above
  pub refused : fault_below above line ≡ Some fault

-- these are the entries of the vocabulary that the bytes write
pub record IsVocabulary (bytes : List ℕ) (entries : List Entry) : Type 0 where
  pub right : AreRight (lines_of bytes)
  pub in_order : entries ≡ entries_of (lines_of bytes)

-- no two entries have one spelling
abbrev pub AreDistinct : List Entry → Type 0
AreDistinct entries = (above : List Entry) (entry : Entry) (below : List Entry) → entries ≡ above ++ entry ∷ below → is_spelled above entry.spelling ≡ false

-- the bytes are refused with this fault; want of memory says nothing of them
abbrev pub IsRefused : List ℕ → VocFault → Type 0
IsRefused bytes (Memory _) = Unit {0}
IsRefused bytes fault = IsFirstFault (lines_of bytes) fault
