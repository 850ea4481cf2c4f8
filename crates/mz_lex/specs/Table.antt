-- The symbols that an environment part names.
use Rattle.std.specs.Prelude.{◌≡◌, ℕ, ◌≤◌, ◌<◌, Bool, true, false, not, ◌&&◌, ◌==◌, if◌then◌else◌, List, [], ◌∷◌, ◌++◌, length, map, filter, find, Option, Some, None, codes}
use Rattle.std.specs.List.{list_any}
use Rattle.std.specs.Str.{bytes_eq}
use Rattle.mz_base.specs.Name.{number_of, is_built_in}
use Rattle.mz_base.specs.NamedText.{NamedText}
use Rattle.mz_base.specs.declared.symbol_kind.SymbolKind.{SymbolKind}
use Rattle.mz_base.specs.declared.symbol_kind.SymbolKind.TheVariants.{Structure, LeftBracket, RightBracket, Mode, Functor, Predicate, Selector, Attribute}
use Rattle.mz_base.specs.declared.token.TokenKind.TheVariants.{Symbol}
use Rattle.mz_base.specs.declared.head.DirectiveKind.{DirectiveKind}
use Rattle.mz_base.specs.declared.head.DirectiveKind.TheVariants.{Vocabularies}
use Rattle.mz_base.specs.declared.head.Directive.{Directive}
use Rattle.mz_base.specs.declared.head.PlacedName.{PlacedName}
use Rattle.mz_voc.specs.declared.vocabulary.Entry.{Entry}
use Rattle.mz_voc.specs.Lines.{lines_of}
use Rattle.mz_voc.specs.Vocabulary.{is_spelled, IsVocabulary, IsFirstFault}
use Rattle.mz_lex.specs.declared.lexeme.Lexeme.{Lexeme}
use Rattle.mz_lex.specs.declared.table_fault.TableFault.{TableFault}
use Rattle.mz_lex.specs.declared.table_fault.TableFault.TheVariants.{Absent, Bad, TwoKinds, TooManySymbols, Memory}
use Rattle.mz_lex.specs.BuiltIn.{built_in_lexemes}

-- the most symbols of an environment, the built-in ones not among them
abbrev pub most_symbols : ℕ
most_symbols = 4096

abbrev pub is_vocabularies : DirectiveKind → Bool
is_vocabularies Vocabularies = true
is_vocabularies _ = false

-- the names of a directive that names vocabularies
abbrev pub names_under : Directive → List PlacedName
names_under d = if is_vocabularies d.kind then d.names else []

-- the names of vocabularies, in the order of the text
abbrev pub vocabulary_names : List Directive → List PlacedName
vocabulary_names [] = []
vocabulary_names (d ∷ ds) = names_under d ++ vocabulary_names ds

abbrev pub is_among : List PlacedName → PlacedName → Bool
is_among above n = list_any (λ a. a.name.number == n.name.number) above

-- the names that don't stand above or among these names further up
abbrev pub firsts : List PlacedName → List PlacedName → List PlacedName
firsts above [] = []
firsts above (n ∷ ns) = (if is_among above n then [] else n ∷ []) ++ firsts (above ++ n ∷ []) ns

-- each name once, where it stands first
abbrev pub each_once : List PlacedName → List PlacedName
each_once ns = firsts [] ns

-- the vocabularies that an environment part names, in the order of the text
abbrev pub named_vocabularies : List Directive → List PlacedName
named_vocabularies ds = each_once (vocabulary_names ds)

-- HIDDEN's vocabulary is built in
abbrev pub is_hidden : PlacedName → Bool
is_hidden n = n.name.number == number_of (codes "HIDDEN")

abbrev pub text_in : Option NamedText → Option (List ℕ)
text_in None = None
text_in (Some v) = v.text

-- the text of the first vocabulary of a name; the built-in names have none
abbrev pub text_named : List NamedText → PlacedName → Option (List ℕ)
text_named vs n = if is_built_in n.name.number then None else text_in (find (λ v. v.name.number == n.name.number) vs)

-- the letter of a kind
abbrev pub letter_of : SymbolKind → ℕ
letter_of Structure = 71
letter_of LeftBracket = 75
letter_of RightBracket = 76
letter_of Mode = 77
letter_of Functor = 79
letter_of Predicate = 82
letter_of Selector = 85
letter_of Attribute = 86

abbrev pub same_kind : SymbolKind → SymbolKind → Bool
same_kind a b = letter_of a == letter_of b

-- one spelling, two kinds
abbrev pub clashes_with : Entry → Entry → Bool
clashes_with e a = bytes_eq a.spelling e.spelling && not (same_kind a.kind e.kind)

abbrev pub clashes : List Entry → Entry → Bool
clashes known e = list_any (clashes_with e) known

abbrev pub any_clash : List Entry → List Entry → Bool
any_clash known entries = list_any (clashes known) entries

abbrev pub is_new : List Entry → Entry → Bool
is_new known e = not (is_spelled known e.spelling)

-- the known symbols and the new ones; a symbol that is known keeps its priority
abbrev pub joined : List Entry → List Entry → List Entry
joined known entries = known ++ filter (is_new known) entries

-- what a name adds to the known symbols
pub data Adds : List NamedText → List Entry → PlacedName → List Entry → Type 0 where
  hidden : {vs : List NamedText} {known : List Entry} (n : PlacedName) → is_hidden n ≡ true → Adds vs known n known
  vocabulary : {vs : List NamedText} {known : List Entry} (n : PlacedName) (bytes : List ℕ) (entries : List Entry) → is_hidden n ≡ false → text_named vs n ≡ Some bytes → IsVocabulary bytes entries → any_clash known entries ≡ false → length (joined known entries) ≤ most_symbols → Adds vs known n (joined known entries)

-- what names add, one after another
pub data AddsAll : List NamedText → List Entry → List PlacedName → List Entry → Type 0 where
  none : {vs : List NamedText} {known : List Entry} → AddsAll vs known [] known
  more : {vs : List NamedText} {known : List Entry} (n : PlacedName) (ns : List PlacedName) (next all : List Entry) → Adds vs known n next → AddsAll vs next ns all → AddsAll vs known (n ∷ ns) all

-- the fault of a name beside the known symbols
abbrev pub IsFaultOf : List NamedText → List Entry → PlacedName → TableFault → Type 0
IsFaultOf vs known n (Absent p) = (p ≡ n.place) × (is_hidden n ≡ false) × (text_named vs n ≡ None)
IsFaultOf vs known n (Bad p f) = (p ≡ n.place) × (is_hidden n ≡ false) × ((bytes : List ℕ) × (text_named vs n ≡ Some bytes) × IsFirstFault (lines_of bytes) f)
IsFaultOf vs known n (TwoKinds p) = (p ≡ n.place) × (is_hidden n ≡ false) × ((bytes : List ℕ) × (entries : List Entry) × (text_named vs n ≡ Some bytes) × IsVocabulary bytes entries × (any_clash known entries ≡ true))
IsFaultOf vs known n (TooManySymbols p) = (p ≡ n.place) × (is_hidden n ≡ false) × ((bytes : List ℕ) × (entries : List Entry) × (text_named vs n ≡ Some bytes) × IsVocabulary bytes entries × (any_clash known entries ≡ false) × (most_symbols < length (joined known entries)))
IsFaultOf vs known n (Memory _) = Unit {0}

-- the first name that fails has this fault; want of memory says nothing of them
pub record IsTableRefused (vs : List NamedText) (ns : List PlacedName) (fault : TableFault) : Type 0 where
  pub before : List PlacedName
  pub name : PlacedName
  pub behind : List PlacedName
  pub known : List Entry
  pub split : ns ≡ before ++ name ∷ behind
  pub adds : AddsAll vs [] before known
  pub refused : IsFaultOf vs known name fault

-- the priority counts for functors alone
abbrev pub symbol_priority : SymbolKind → ℕ → ℕ
symbol_priority Functor priority = priority
symbol_priority _ priority = 0

abbrev pub symbol_lexeme : Entry → Lexeme
symbol_lexeme e = record { spelling = e.spelling; kind = Symbol e.kind; priority = symbol_priority e.kind e.priority }

-- the lexemes of the environment part: the built-in ones, and the symbols that it names
pub record IsTableOf (vs : List NamedText) (ds : List Directive) (lexemes : List Lexeme) : Type 0 where
  pub symbols : List Entry
  pub adds : AddsAll vs [] (named_vocabularies ds) symbols
  pub all : lexemes ≡ built_in_lexemes ++ map symbol_lexeme symbols

abbrev pub IsTableFault : List NamedText → List Directive → TableFault → Type 0
IsTableFault vs ds (Memory _) = Unit {0}
IsTableFault vs ds fault = IsTableRefused vs (named_vocabularies ds) fault
