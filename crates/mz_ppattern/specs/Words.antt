-- Reserved words that are told by their spelling, and `->`.
use Rattle.std.specs.Prelude.{◌≡◌, ℕ, ◌==◌, Bool, true, false, List, [], ◌∷◌, Option, Some, None, codes, if◌then◌else◌}
use Rattle.std.specs.Str.{bytes_eq}
use Rattle.mz_base.specs.declared.place.Place.{Place}
use Rattle.mz_base.specs.declared.token.TokenKind.{TokenKind}
use Rattle.mz_base.specs.declared.token.TokenKind.TheVariants as kinds
use Rattle.mz_base.specs.declared.token.Mark.{Mark}
use Rattle.mz_base.specs.declared.token.Mark.TheVariants as marks
use Rattle.mz_base.specs.declared.token.MarkedToken.{MarkedToken}
use Rattle.mz_forms.specs.Form.{Form, Agrees, one_of}
use Rattle.mz_tree.specs.Spelled.{reserved, special}

-- a token without a mark is this reserved word
abbrev pub spells_word : List ℕ → TokenKind → List ℕ → Bool
spells_word w kinds.Reserved s = bytes_eq s w
spells_word w kinds.Special s = false
spells_word w (kinds.Symbol k) s = false
spells_word w kinds.Identifier s = false
spells_word w kinds.Numeral s = false

-- a token without a mark is `->`
abbrev pub is_special : TokenKind → List ℕ → Bool
is_special kinds.Reserved s = false
is_special kinds.Special s = bytes_eq s (codes "->")
is_special (kinds.Symbol k) s = false
is_special kinds.Identifier s = false
is_special kinds.Numeral s = false

abbrev pub marked_word : List ℕ → Mark → TokenKind → List ℕ → Bool
marked_word w marks.NotComma k s = spells_word w k s
marked_word w marks.List k s = false
marked_word w marks.Dividing k s = false

abbrev pub marked_arrow : Mark → TokenKind → List ℕ → Bool
marked_arrow marks.NotComma k s = is_special k s
marked_arrow marks.List k s = false
marked_arrow marks.Dividing k s = false

-- the token is this reserved word
abbrev pub is_word : List ℕ → MarkedToken → Bool
is_word w t = (if t.token.priority == 0 then marked_word w t.mark t.token.kind t.token.spelling else false)

-- the token is `->`
abbrev pub is_arrow : MarkedToken → Bool
is_arrow t = (if t.token.priority == 0 then marked_arrow t.mark t.token.kind t.token.spelling else false)

abbrev pub word_token : List ℕ → Place → MarkedToken
word_token w p = reserved p w

abbrev pub word_form : List ℕ → Form MarkedToken
word_form w = one_of Place (word_token w)

abbrev pub arrow_token : Place → MarkedToken
arrow_token p = special p (codes "->")

abbrev pub arrow_form : Form MarkedToken
arrow_form = one_of Place arrow_token

-- The next token was taken where it is of this class, and else nothing was.
abbrev pub TakesOne : (Place → MarkedToken) → List MarkedToken → Option Place → List MarkedToken → Type 0
TakesOne f before (Some p) after = before ≡ f p ∷ after
TakesOne f before None after = (before ≡ after) × ((p : Place) → Agrees before (f p ∷ []) → ⊥)
