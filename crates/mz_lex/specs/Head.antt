-- Environment parts.
use Rattle.std.specs.Prelude.{◌≡◌, ℕ, ◌<◌, List, [], ◌∷◌, ◌++◌, length}
use Rattle.mz_base.specs.Bytes.{raised}
use Rattle.mz_base.specs.Name.{number_of}
use Rattle.mz_base.specs.declared.place.Place.{Place}
use Rattle.mz_base.specs.declared.token.Token.{Token}
use Rattle.mz_base.specs.declared.head.DirectiveKind.{DirectiveKind}
use Rattle.mz_base.specs.declared.head.Directive.{Directive}
use Rattle.mz_base.specs.declared.head.PlacedName.{PlacedName}
use Rattle.mz_lex.specs.declared.head_token.HeadToken.{HeadToken}
use Rattle.mz_lex.specs.declared.head_token.HeadToken.TheVariants as head_tokens
use Rattle.mz_lex.specs.declared.head_fault.HeadFault.{HeadFault}
use Rattle.mz_lex.specs.declared.head_fault.HeadFault.TheVariants.{BadByte, TooManyTokens, Pragma, Unexpected, EndsEarly, Profile2, Memory}
use Rattle.mz_lex.specs.HeadToken.{head_token_of}
use Rattle.mz_lex.specs.BuiltIn.{built_in_lexemes}
use Rattle.mz_lex.specs.Cut.{Stop, Whole, AtBadByte, AtPragma, AtTooManyTokens, IsCut}

-- what a token of an environment part has to be
pub data Pattern : Type 0 where
  AWord : HeadToken → Pattern
  ADirective : DirectiveKind → Place → Pattern
  AName : PlacedName → Pattern

abbrev pub Fits : Pattern → Token → Type 0
Fits (AWord head_token) token = head_token_of token ≡ head_token
Fits (ADirective kind place) token = (head_token_of token ≡ head_tokens.Directive kind) × (place ≡ token.place)
Fits (AName name) token = (head_token_of token ≡ head_tokens.Name) × (name.name.number ≡ number_of (raised token.spelling)) × (name.place ≡ token.place)

-- the tokens are what they have to be, one by one
abbrev pub Matches : List Pattern → List Token → Type 0
Matches [] [] = Unit {0}
Matches [] (t ∷ ts) = ⊥
Matches (p ∷ ps) [] = ⊥
Matches (p ∷ ps) (t ∷ ts) = Fits p t × Matches ps ts

-- further names of a list
abbrev pub more_names : List PlacedName → List Pattern
more_names [] = []
more_names (n ∷ ns) = AWord head_tokens.Comma ∷ AName n ∷ more_names ns

-- names with commas between
abbrev pub names_between : List PlacedName → List Pattern
names_between [] = []
names_between (n ∷ ns) = AName n ∷ more_names ns

-- word, names, semicolon; word, names, semicolon ..
abbrev pub spell_directives : List Directive → List Pattern
spell_directives [] = []
spell_directives (d ∷ ds) = ADirective d.kind d.place ∷ (names_between d.names ++ (AWord head_tokens.Semicolon ∷ spell_directives ds))

-- `environ`, the directives, `begin`
abbrev pub spell_head : List Directive → List Pattern
spell_head ds = AWord head_tokens.Environ ∷ (spell_directives ds ++ AWord head_tokens.Begin ∷ [])

-- each directive has a name
abbrev pub EachNamed : List Directive → Type 0
EachNamed [] = Unit {0}
EachNamed (d ∷ ds) = (0 < length d.names) × EachNamed ds

-- the tokens spell these directives
pub record SpellsHead (ds : List Directive) (ts : List Token) : Type 0 where
  pub named : EachNamed ds
  pub spelled : Matches (spell_head ds) ts

-- the tokens begin the spelling of some directives
pub record BeginsHead (ts : List Token) : Type 0 where
  pub some : List Directive
  pub more : List Token
  pub spells : SpellsHead some (ts ++ more)

-- after these tokens a directive's word or `begin` comes
pub record ExpectsDirective (ts : List Token) : Type 0 where
  pub some : List Directive
  pub named : EachNamed some
  pub spelled : Matches (AWord head_tokens.Environ ∷ spell_directives some) ts

-- the first token with which the tokens begin no environment part stands there, and it is no directive's word of later on
pub record IsUnexpected (ts : List Token) (p : Place) : Type 0 where
  pub before : List Token
  pub token : Token
  pub behind : List Token
  pub split : ts ≡ before ++ token ∷ behind
  pub begins : BeginsHead before
  pub breaks : BeginsHead (before ++ token ∷ []) → ⊥
  pub not_later : ExpectsDirective before → head_token_of token ≡ head_tokens.Later → ⊥
  pub at : p ≡ token.place

-- a directive's word of later on stands there, where a directive's word may come
pub record IsLater (ts : List Token) (p : Place) : Type 0 where
  pub before : List Token
  pub token : Token
  pub behind : List Token
  pub split : ts ≡ before ++ token ∷ behind
  pub expects : ExpectsDirective before
  pub later : head_token_of token ≡ head_tokens.Later
  pub at : p ≡ token.place

-- the tokens begin an environment part and are none
pub record BreaksOff (ts : List Token) : Type 0 where
  pub some : List Directive
  pub next : Token
  pub more : List Token
  pub spells : SpellsHead some (ts ++ next ∷ more)

-- the tokens of the environment part alone
abbrev pub HeadTokens : List ℕ → List Token → Place → Type 0
HeadTokens bytes ts p = IsCut built_in_lexemes Stop bytes ts (Whole p)

-- the bytes have this environment part
pub record IsHeadOf (bytes : List ℕ) (ds : List Directive) : Type 0 where
  pub tokens : List Token
  pub place : Place
  pub cut : HeadTokens bytes tokens place
  pub spells : SpellsHead ds tokens

-- the bytes are refused with this fault; want of memory says nothing of them
abbrev pub IsHeadRefused : List ℕ → HeadFault → Type 0
IsHeadRefused bytes (BadByte p) = (ts : List Token) × IsCut built_in_lexemes Stop bytes ts (AtBadByte p)
IsHeadRefused bytes (TooManyTokens p) = (ts : List Token) × IsCut built_in_lexemes Stop bytes ts (AtTooManyTokens p)
IsHeadRefused bytes (Pragma p) = (ts : List Token) × IsCut built_in_lexemes Stop bytes ts (AtPragma p)
IsHeadRefused bytes (Unexpected p) = (ts : List Token) × (q : Place) × HeadTokens bytes ts q × IsUnexpected ts p
IsHeadRefused bytes (EndsEarly p) = (ts : List Token) × HeadTokens bytes ts p × BreaksOff ts
IsHeadRefused bytes (Profile2 p) = (ts : List Token) × (q : Place) × HeadTokens bytes ts q × IsLater ts p
IsHeadRefused bytes (Memory _) = Unit {0}
