-- The cut of a text into tokens.
use Rattle.std.specs.Prelude.{◌≡◌, ℕ, suc, Bool, true, false, List, [], ◌∷◌, ◌++◌, codes}
use Rattle.std.specs.Str.{bytes_eq}
use Rattle.mz_base.specs.Place.{start, after, end_from}
use Rattle.mz_base.specs.declared.place.Place.{Place}
use Rattle.mz_base.specs.declared.token.Token.{Token}
use Rattle.mz_lex.specs.declared.lexeme.Lexeme.{Lexeme}
use Rattle.mz_lex.specs.declared.lex_fault.LexFault.{LexFault}
use Rattle.mz_lex.specs.declared.lex_fault.LexFault.TheVariants.{BadByte, TooManyTokens, Pragma, Memory}
use Rattle.mz_lex.specs.Tokens.{is_separator, opens_pragma, token_of, IsToken, IsBadByte, IsComment}

-- where a cut ends: at the end of what it covers, or at a byte, a pragma or a token where it stops
pub data End : Type 0 where
  Whole : Place → End
  AtBadByte : Place → End
  AtPragma : Place → End
  AtTooManyTokens : Place → End

-- the most tokens that a text has
abbrev pub most_tokens : ℕ
most_tokens = 200000

-- what a cut does at its first `begin`: it goes on with the same symbols, ends, or goes on with these symbols
pub data Mode : Type 0 where
  Same : Mode
  Stop : Mode
  Switch : List Lexeme → Mode

abbrev pub is_begin : List ℕ → Bool
is_begin spelling = bytes_eq spelling (codes "begin")

-- whether the cut doesn't go on as before behind this spelling
abbrev pub is_border : Mode → List ℕ → Bool
is_border Same spelling = false
is_border Stop spelling = is_begin spelling
is_border (Switch later) spelling = is_begin spelling

-- From a place on, where so many tokens may still come, the text is separators, comments and the spellings of
-- these tokens in turn, up to this end.
pub data Cuts : List Lexeme → Mode → ℕ → Place → List ℕ → List Token → End → Type 0 where
  end : {ls : List Lexeme} {m : Mode} {n : ℕ} {p : Place} → Cuts ls m n p [] [] (Whole p)
  separator : {ls : List Lexeme} {m : Mode} {n : ℕ} {p : Place} (b : ℕ) (bs : List ℕ) (ts : List Token) (e : End) → is_separator b ≡ true → Cuts ls m n (after p b) bs ts e → Cuts ls m n p (b ∷ bs) ts e
  comment : {ls : List Lexeme} {m : Mode} {n : ℕ} {p : Place} (text c bs : List ℕ) (ts : List Token) (e : End) → IsComment text c bs → Cuts ls m n (end_from p c) bs ts e → Cuts ls m n p text ts e
  pragma : {ls : List Lexeme} {m : Mode} {n : ℕ} {p : Place} (text : List ℕ) → opens_pragma text ≡ true → Cuts ls m n p text [] (AtPragma p)
  bad_byte : {ls : List Lexeme} {m : Mode} {n : ℕ} {p : Place} (text : List ℕ) → IsBadByte ls text → Cuts ls m n p text [] (AtBadByte p)
  too_many : {ls : List Lexeme} {m : Mode} {p : Place} (text w bs : List ℕ) → IsToken ls text w bs → Cuts ls m 0 p text [] (AtTooManyTokens p)
  token : {ls : List Lexeme} {m : Mode} {n : ℕ} {p : Place} (text w bs : List ℕ) (ts : List Token) (e : End) → IsToken ls text w bs → is_border m w ≡ false → Cuts ls m n (end_from p w) bs ts e → Cuts ls m (suc n) p text (token_of ls p w ∷ ts) e
  closing : {ls : List Lexeme} {n : ℕ} {p : Place} (text w bs : List ℕ) → IsToken ls text w bs → is_begin w ≡ true → Cuts ls Stop (suc n) p text (token_of ls p w ∷ []) (Whole (end_from p w))
  switching : {ls later : List Lexeme} {n : ℕ} {p : Place} (text w bs : List ℕ) (ts : List Token) (e : End) → IsToken ls text w bs → is_begin w ≡ true → Cuts later Same n (end_from p w) bs ts e → Cuts ls (Switch later) (suc n) p text (token_of ls p w ∷ ts) e

-- the cut of a text from its start
abbrev pub IsCut : List Lexeme → Mode → List ℕ → List Token → End → Type 0
IsCut ls mode bytes ts e = Cuts ls mode most_tokens start bytes ts e

-- after some tokens the cut stops with this fault; want of memory says nothing of the text
abbrev pub IsStopped : List Lexeme → Mode → List ℕ → LexFault → Type 0
IsStopped ls mode bytes (BadByte p) = (ts : List Token) × IsCut ls mode bytes ts (AtBadByte p)
IsStopped ls mode bytes (Pragma p) = (ts : List Token) × IsCut ls mode bytes ts (AtPragma p)
IsStopped ls mode bytes (TooManyTokens p) = (ts : List Token) × IsCut ls mode bytes ts (AtTooManyTokens p)
IsStopped ls mode bytes (Memory _) = Unit {0}

-- there is one cut
abbrev pub OneCut : List Lexeme → Mode → List ℕ → Type 0
OneCut ls mode bytes = (ts us : List Token) (e f : End) → IsCut ls mode bytes ts e → IsCut ls mode bytes us f → (ts ≡ us) × (e ≡ f)

-- the tokens of the cut that ends with the first `begin` come first in the cut that goes on with later symbols
abbrev pub HeadFirst : List Lexeme → List Lexeme → List ℕ → Type 0
HeadFirst ls later bytes = (ts us : List Token) (e f : End) → IsCut ls Stop bytes ts e → IsCut ls (Switch later) bytes us f → (vs : List Token) × (us ≡ ts ++ vs)
