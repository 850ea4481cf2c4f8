-- Reserved words, special symbols, built-in symbols and words.
use Rattle.std.specs.Prelude.{List, ℕ, [], ◌∷◌, Bool, not, ◌&&◌, ◌||◌, ◌==◌, codes, length}
use Rattle.std.specs.List.{list_all, list_any}
use Rattle.std.specs.Str.{bytes_eq}
use Rattle.mz_base.specs.Bytes.{is_letter, is_digit}
use Rattle.mz_base.specs.declared.symbol_kind.SymbolKind.{SymbolKind}
use Rattle.mz_base.specs.declared.symbol_kind.SymbolKind.TheVariants.{Mode, Predicate, Attribute}

-- the reserved words, in the order of their bytes
unfoldable pub reserved_words : List (List ℕ)
reserved_words =
    codes "and" ∷ codes "antonym" ∷ codes "are" ∷ codes "as" ∷ codes "assume" ∷ codes "asymmetry" ∷ codes "attr" ∷
    codes "be" ∷ codes "begin" ∷ codes "being" ∷ codes "by" ∷ codes "canceled" ∷ codes "case" ∷ codes "cases" ∷
    codes "cluster" ∷ codes "coherence" ∷ codes "commutativity" ∷ codes "compatibility" ∷ codes "connectedness" ∷
    codes "consider" ∷ codes "consistency" ∷ codes "constructors" ∷ codes "contradiction" ∷ codes "correctness" ∷
    codes "def" ∷ codes "deffunc" ∷ codes "definition" ∷ codes "definitions" ∷ codes "defpred" ∷ codes "do" ∷
    codes "does" ∷ codes "end" ∷ codes "environ" ∷ codes "equalities" ∷ codes "equals" ∷ codes "ex" ∷ codes "exactly" ∷
    codes "existence" ∷ codes "expansions" ∷ codes "for" ∷ codes "from" ∷ codes "func" ∷ codes "given" ∷
    codes "hence" ∷ codes "hereby" ∷ codes "holds" ∷ codes "idempotence" ∷ codes "identify" ∷ codes "if" ∷
    codes "iff" ∷ codes "implies" ∷ codes "involutiveness" ∷ codes "irreflexivity" ∷ codes "is" ∷ codes "it" ∷
    codes "let" ∷ codes "means" ∷ codes "mode" ∷ codes "non" ∷ codes "not" ∷ codes "notation" ∷ codes "notations" ∷
    codes "now" ∷ codes "of" ∷ codes "or" ∷ codes "otherwise" ∷ codes "over" ∷ codes "per" ∷ codes "pred" ∷
    codes "projectivity" ∷ codes "proof" ∷ codes "provided" ∷ codes "qua" ∷ codes "reconsider" ∷ codes "redefine" ∷
    codes "reduce" ∷ codes "reducibility" ∷ codes "reflexivity" ∷ codes "registration" ∷ codes "registrations" ∷
    codes "requirements" ∷ codes "reserve" ∷ codes "sch" ∷ codes "scheme" ∷ codes "schemes" ∷ codes "set" ∷
    codes "sethood" ∷ codes "st" ∷ codes "struct" ∷ codes "such" ∷ codes "suppose" ∷ codes "symmetry" ∷
    codes "synonym" ∷ codes "take" ∷ codes "that" ∷ codes "the" ∷ codes "then" ∷ codes "theorem" ∷ codes "theorems" ∷
    codes "thesis" ∷ codes "thus" ∷ codes "to" ∷ codes "transitivity" ∷ codes "uniqueness" ∷ codes "vocabularies" ∷
    codes "where" ∷ codes "with" ∷
    []

unfoldable pub special_symbols : List (List ℕ)
special_symbols =
    codes "," ∷ codes ";" ∷ codes ":" ∷ codes "(" ∷ codes ")" ∷ codes "[" ∷ codes "]" ∷ codes "{" ∷ codes "}" ∷
    codes "&" ∷ codes "->" ∷ codes ".=" ∷ codes "(#" ∷ codes "#)" ∷ codes "$1" ∷ codes "$2" ∷ codes "$3" ∷ codes "$4" ∷
    codes "$5" ∷ codes "$6" ∷ codes "$7" ∷ codes "$8" ∷ codes "$9" ∷ codes "$10" ∷
    []

-- the built-in symbols, but for the reserved word `set`, which serves as a mode too
unfoldable pub built_in_symbols : List (List ℕ × SymbolKind)
built_in_symbols =
    (codes "object", Mode) ∷ (codes "=", Predicate) ∷ (codes "<>", Predicate) ∷ (codes "in", Predicate) ∷ (codes "strict", Attribute) ∷ []

abbrev pub is_reserved : List ℕ → Bool
is_reserved bs = list_any (λ w. bytes_eq w bs) reserved_words

abbrev pub is_special : List ℕ → Bool
is_special bs = list_any (λ w. bytes_eq w bs) special_symbols

abbrev pub is_built_in_symbol : List ℕ → Bool
is_built_in_symbol bs = list_any (λ s. bytes_eq s.0 bs) built_in_symbols

-- a letter, a digit, `_` or `'`
abbrev pub is_word_byte : ℕ → Bool
is_word_byte b = is_letter b || is_digit b || b == 95 || b == 39

abbrev pub is_word : List ℕ → Bool
is_word bs = not (length bs == 0) && list_all is_word_byte bs

abbrev pub is_numeral : List ℕ → Bool
is_numeral bs = not (length bs == 0) && list_all is_digit bs
