-- The tokens that trees are spelled with, each with its mark.
use Rattle.std.specs.Prelude.{ℕ, ◌+◌, ◌==◌, nat_lt, List, [], ◌∷◌, Bool, true, false, codes, Option, Some, None, if◌then◌else◌}
use Rattle.std.specs.Str.{bytes_eq}
use Rattle.mz_base.specs.declared.place.Place.{Place}
use Rattle.mz_base.specs.declared.symbol_kind.SymbolKind.{SymbolKind}
use Rattle.mz_base.specs.declared.symbol_kind.SymbolKind.TheVariants as symbols
use Rattle.mz_base.specs.declared.token.TokenKind.{TokenKind}
use Rattle.mz_base.specs.declared.token.TokenKind.TheVariants.{Reserved, Special, Symbol, Identifier, Numeral}
use Rattle.mz_base.specs.declared.token.Mark.{Mark}
use Rattle.mz_base.specs.declared.token.Mark.TheVariants as marks
use Rattle.mz_base.specs.declared.token.MarkedToken.{MarkedToken}
use Rattle.mz_tree.specs.declared.word.Word.{Word}
use Rattle.mz_tree.specs.declared.word.Comma.{Comma}
use Rattle.mz_tree.specs.declared.word.Being.{Being}

abbrev pub marked : TokenKind → Place → List ℕ → ℕ → Mark → MarkedToken
marked k p s n m = record { token = record { kind = k; place = p; spelling = s; priority = n }; mark = m }

abbrev pub reserved : Place → List ℕ → MarkedToken
reserved p s = marked Reserved p s 0 marks.NotComma

abbrev pub special : Place → List ℕ → MarkedToken
special p s = marked Special p s 0 marks.NotComma

abbrev pub identifier : Word → MarkedToken
identifier w = marked Identifier w.place w.spelling 0 marks.NotComma

abbrev pub symbol : SymbolKind → Word → MarkedToken
symbol k w = marked (Symbol k) w.place w.spelling 0 marks.NotComma

-- a functor symbol with its priority
abbrev pub functor : Word → ℕ → MarkedToken
functor w n = marked (Symbol symbols.Functor) w.place w.spelling n marks.NotComma

-- a symbol of a mode; the reserved word `set` serves as one
abbrev pub mode : Word → MarkedToken
mode w = (if bytes_eq w.spelling (codes "set") then marked Reserved w.place w.spelling 0 marks.NotComma else symbol symbols.Mode w)

-- `$1` to `$10`
abbrev pub argument : Place → ℕ → MarkedToken
argument p n = special p (if n == 10 then codes "$10" else (if nat_lt n 10 then 36 ∷ ((48 + n) ∷ []) else codes "$"))

abbrev pub list_comma : Place → MarkedToken
list_comma p = marked Special p (codes ",") 0 marks.List

abbrev pub mark_of : Bool → Mark
mark_of true = marks.Dividing
mark_of false = marks.List

-- a comma of either mark
abbrev pub comma_token : Comma → MarkedToken
comma_token c = marked Special c.place (codes ",") 0 (mark_of c.dividing)

abbrev pub being_token : Being → MarkedToken
being_token b = reserved b.place (if b.long then codes "being" else codes "be")

abbrev pub non_of : Option Place → List MarkedToken
non_of None = []
non_of (Some p) = reserved p (codes "non") ∷ []

-- a word that may be left out
abbrev pub reserved_if : Option Place → List ℕ → List MarkedToken
reserved_if None s = []
reserved_if (Some p) s = reserved p s ∷ []

abbrev pub numeral : Word → MarkedToken
numeral w = marked Numeral w.place w.spelling 0 marks.NotComma

-- `=`, which is a predicate symbol
abbrev pub equals_sign : Place → MarkedToken
equals_sign p = marked (Symbol symbols.Predicate) p (codes "=") 0 marks.NotComma

-- what a part that may be left out gives
abbrev pub maybe : {X Y : Type 0} → (X → List Y) → Option X → List Y
maybe f None = []
maybe f (Some x) = f x
