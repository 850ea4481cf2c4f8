-- The marks of commas: a comma divides exactly where the next token is there and can't begin a term, or where a new segment
-- follows; every other comma goes on a list.
use Rattle.std.specs.Prelude.{◌≡◌, ℕ, ◌<◌, Bool, true, false, ◌⊎◌, List, [], ◌∷◌, ◌++◌, take, drop, length, get_or, map}
use Rattle.std.specs.List.{list_all}
use Rattle.mz_marks.specs.declared.token_class.TokenClass.{TokenClass}
use Rattle.mz_marks.specs.declared.token_class.TokenClass.TheVariants.{Identifier, Comma, Open, Close, Bracket, Being, Arrow, For, Reserve, Semicolon, Structure, Aggregate, Term}
use Rattle.mz_base.specs.declared.token.Mark.{Mark}
use Rattle.mz_base.specs.declared.token.Mark.TheVariants as mark
use Rattle.mz_base.specs.declared.token.MarkedToken.{MarkedToken}
use Rattle.mz_base.specs.declared.token.Token.{Token}
use Rattle.mz_marks.specs.TokenClass.{class_of}

-- the next token can begin a term, or no token is left; a symbol of a structure does so before `(#` or as the last token
abbrev pub may_begin_term : List TokenClass → Bool
may_begin_term [] = true
may_begin_term (Identifier ∷ s) = true
may_begin_term (Open ∷ s) = true
may_begin_term (Bracket ∷ s) = true
may_begin_term (Term ∷ s) = true
may_begin_term (Structure ∷ []) = true
may_begin_term (Structure ∷ (Aggregate ∷ s)) = true
may_begin_term _ = false

abbrev pub is_parenthesis : TokenClass → Bool
is_parenthesis Open = true
is_parenthesis Close = true
is_parenthesis _ = false

-- each parenthesis has its partner; other brackets don't count
pub data Balanced : List TokenClass → Type 0 where
  nothing : Balanced []
  other : (r : TokenClass) (s : List TokenClass) → is_parenthesis r ≡ false → Balanced s → Balanced (r ∷ s)
  group : (a b : List TokenClass) → Balanced a → Balanced b → Balanced (Open ∷ (a ++ Close ∷ b))

-- one or more identifiers with commas between them
pub data Idents : List TokenClass → Type 0 where
  one : Idents (Identifier ∷ [])
  more : (s : List TokenClass) → Idents s → Idents (Identifier ∷ (Comma ∷ s))

abbrev pub is_no_semicolon : TokenClass → Bool
is_no_semicolon Semicolon = false
is_no_semicolon _ = true

-- a `reserve` stands before, and no `;` behind it
abbrev pub InReserve : List TokenClass → Type 0
InReserve before = (a : List TokenClass) × (b : List TokenClass) × (before ≡ a ++ Reserve ∷ b) × (list_all is_no_semicolon b ≡ true)

-- what follows the identifiers of a new segment: `be`, `being` or `[`, or a `(` with `->` behind its matching `)`, or, in
-- a `reserve`, `for`
abbrev pub EndsIdents : List TokenClass → List TokenClass → Type 0
EndsIdents before (Being ∷ s) = Unit {0}
EndsIdents before (Bracket ∷ s) = Unit {0}
EndsIdents before (For ∷ s) = InReserve before
EndsIdents before (Open ∷ s) = (a : List TokenClass) × (more : List TokenClass) × Balanced a × (s ≡ a ++ Close ∷ (Arrow ∷ more))
EndsIdents before _ = ⊥

-- Behind the comma, before which these tokens stand, a new segment begins.
abbrev pub NewSegment : List TokenClass → List TokenClass → Type 0
NewSegment before rest = (idents : List TokenClass) × (after : List TokenClass) × Idents idents × (rest ≡ idents ++ after) × EndsIdents before after

-- The comma between these tokens divides.
abbrev pub Divides : List TokenClass → List TokenClass → Type 0
Divides before rest = (may_begin_term rest ≡ false) ⊎ NewSegment before rest

-- The first of the tokens from some place on has this mark.
abbrev pub IsMark : List TokenClass → List TokenClass → Mark → Type 0
IsMark before [] m = ⊥
IsMark before (Comma ∷ rest) mark.Dividing = Divides before rest
IsMark before (Comma ∷ rest) mark.List = Divides before rest → ⊥
IsMark before (Comma ∷ rest) mark.NotComma = ⊥
IsMark before (r ∷ rest) mark.NotComma = Unit {0}
IsMark before (r ∷ rest) mark.List = ⊥
IsMark before (r ∷ rest) mark.Dividing = ⊥

-- Each token has its mark.
pub record AreMarks (tokens : List TokenClass) (marks : List Mark) : Type 0 where
  pub count : length marks ≡ length tokens
  pub each : (i : ℕ) → i < length tokens → IsMark (take i tokens) (drop i tokens) (get_or marks i mark.NotComma)

-- The tokens with the marks that their commas have in the whole list.
pub record AreMarked (tokens : List Token) (all : List MarkedToken) : Type 0 where
  pub tokens_are : map (λ m. m.token) all ≡ tokens
  pub marks_are : AreMarks (map class_of tokens) (map (λ m. m.mark) all)
