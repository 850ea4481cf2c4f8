-- Tokens that are told by their keyword: reserved words and signs, and numerals.
use Rattle.std.specs.Prelude.{◌≡◌, Bool, true, false, List, [], ◌∷◌, Option, Some, None, codes}
use Rattle.mz_base.specs.declared.place.Place.{Place}
use Rattle.mz_base.specs.declared.token.MarkedToken.{MarkedToken}
use Rattle.mz_forms.specs.Form.{Form, Agrees, one_of}
use Rattle.mz_tree.specs.declared.word.Word.{Word}
use Rattle.mz_tree.specs.Spelled.{reserved, special, numeral}
use Rattle.mz_pterm.specs.declared.sign.Sign.{Sign}
use Rattle.mz_pterm.specs.Sign.{sign_of}
use Rattle.mz_pjustification.specs.declared.keyword.Keyword.{Keyword}
use Rattle.mz_pjustification.specs.declared.keyword.Keyword.TheVariants as keywords
use Rattle.mz_pjustification.specs.Keyword.{keyword_of}

-- reserved words and signs
abbrev pub is_key : Keyword → Bool
is_key keywords.Numeral = false
is_key keywords.Other = false
is_key _ = true

-- the token of such a keyword with this place
abbrev pub key : Keyword → Place → MarkedToken
key keywords.And p = reserved p (codes "and")
key keywords.As p = reserved p (codes "as")
key keywords.Assume p = reserved p (codes "assume")
key keywords.By p = reserved p (codes "by")
key keywords.Cases p = reserved p (codes "cases")
key keywords.Consider p = reserved p (codes "consider")
key keywords.Def p = reserved p (codes "def")
key keywords.Deffunc p = reserved p (codes "deffunc")
key keywords.Defpred p = reserved p (codes "defpred")
key keywords.End p = reserved p (codes "end")
key keywords.From p = reserved p (codes "from")
key keywords.Given p = reserved p (codes "given")
key keywords.Hence p = reserved p (codes "hence")
key keywords.Hereby p = reserved p (codes "hereby")
key keywords.Let p = reserved p (codes "let")
key keywords.Means p = reserved p (codes "means")
key keywords.Now p = reserved p (codes "now")
key keywords.Per p = reserved p (codes "per")
key keywords.Proof p = reserved p (codes "proof")
key keywords.Reconsider p = reserved p (codes "reconsider")
key keywords.Sch p = reserved p (codes "sch")
key keywords.Such p = reserved p (codes "such")
key keywords.Suppose p = reserved p (codes "suppose")
key keywords.Take p = reserved p (codes "take")
key keywords.That p = reserved p (codes "that")
key keywords.Then p = reserved p (codes "then")
key keywords.Thus p = reserved p (codes "thus")
key keywords.Colon p = special p (codes ":")
key keywords.Semicolon p = special p (codes ";")
key keywords.Link p = special p (codes ".=")
key _ p = special p []

abbrev pub keyword : Keyword → Form MarkedToken
keyword k = one_of Place (key k)

abbrev pub numeral_form : Form MarkedToken
numeral_form = one_of Word numeral

-- The next token was taken where it has this keyword, and else nothing was.
abbrev pub TakesKey : Keyword → List MarkedToken → Option Place → List MarkedToken → Type 0
TakesKey k before (Some p) after = before ≡ key k p ∷ after
TakesKey k before None after = (before ≡ after) × ((p : Place) → Agrees before (key k p ∷ []) → ⊥)

-- a set of tokens, by what they are to a parser of expressions and to one of proofs
abbrev pub tokens_of : (Sign → Keyword → Bool) → MarkedToken → Bool
tokens_of c t = c (sign_of t) (keyword_of t)

-- the next token, where there is one, is of the set
abbrev pub next_among : (Sign → Keyword → Bool) → List MarkedToken → Bool
next_among c [] = false
next_among c (t ∷ ts) = tokens_of c t
