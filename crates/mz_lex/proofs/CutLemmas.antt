-- A turn of the loop over a text.
use Rattle.std.proofs.Common.{◌≡◌, ◌≢◌, ℕ, suc, zero, ◌+◌, Bool, true, false, if◌then◌else◌, List, [], ◌∷◌, ◌++◌, length, take, drop, refl, sym, ap, subst, ◌∙◌, arith, append_assoc, append-nil, length-append}
use Rattle.mz_base.specs.Place.{start, end_from}
use Rattle.mz_base.specs.declared.place.Place.{Place}
use Rattle.mz_base.specs.declared.token.Token.{Token}
use Rattle.mz_lex.specs.declared.lexeme.Lexeme.{Lexeme}
use Rattle.mz_lex.specs.declared.lexeme.Longest.{Longest}
use Rattle.mz_lex.specs.declared.piece.Part.{Part}
use Rattle.mz_lex.specs.declared.piece.Part.TheVariants.{HeadAlone, Head, Behind}
use Rattle.mz_lex.specs.Tokens.{opens_pragma, token_of, IsBadByte}
use Rattle.mz_lex.specs.Piece.{IsTokenPiece, IsCommentPiece, BeginsWithSeparator}
use Rattle.mz_lex.specs.Part.{symbols_of, mode_of, ends_at, part_behind}
use Rattle.mz_lex.specs.Cut.{End, Whole, AtBadByte, AtPragma, AtTooManyTokens, Mode, Same, Stop, Switch, is_begin, Cuts, end, separator, comment, pragma, bad_byte, too_many, token, closing, switching, IsCut, most_tokens}

-- what the loop keeps: what is left to cut, in the mode and with the symbols that are reached, completes what was cut
pub record SoFar (first : List Lexeme) (begun : Mode) (all : List ℕ) (items : List Token) (p : Place) (ls : List Lexeme) (m : Mode) (rest : List ℕ) : Type 0 where
  pub room : ℕ
  pub count : room + length items ≡ most_tokens
  pub goes : (ts : List Token) (e : End) → Cuts ls m room p rest ts e → IsCut first begun all (items ++ ts) e

pub so_far_none : (ls : List Lexeme) (m : Mode) (all : List ℕ) (items : List Token) (p : Place) → items ≡ [] → p ≡ start → SoFar ls m all items p ls m all
so_far_none ls m all items p e s = record { room = most_tokens; count = rw e refl; goes = λ ts e' c. rw e (rw s at c) }

module _ (first : List Lexeme) (begun : Mode) (all : List ℕ) (items : List Token) (p : Place) (ls : List Lexeme) (m : Mode) (rest : List ℕ) (so : SoFar first begun all items p ls m rest) where
  so_far_past : (q : Place) (others : List ℕ) → ((ts : List Token) (e : End) → Cuts ls m so.room q others ts e → Cuts ls m so.room p rest ts e) → SoFar first begun all items q ls m others
  so_far_past q others past = record { room = so.room; count = so.count; goes = λ ts e c. so.goes ts e (past ts e c) }

  pub past_comment : (q : Place) (c others : List ℕ) (n : ℕ) → IsCommentPiece rest n → c ≡ take n rest → others ≡ drop n rest → q ≡ end_from p c → SoFar first begun all items q ls m others
  past_comment q c others n piece ec eo eq =
      so_far_past q others (λ ts e d. comment rest (take n rest) (drop n rest) ts e piece.comment (rw (eq, ec, eo) at d))

  stops_at : (e : End) → Cuts ls m so.room p rest [] e → (ts : List Token) × IsCut first begun all ts e
  stops_at e c = (items ++ [], so.goes [] e c)

  pub stops_at_pragma : opens_pragma rest ≡ true → (ts : List Token) × IsCut first begun all ts (AtPragma p)
  stops_at_pragma o = stops_at (AtPragma p) (pragma rest o)

  pub stops_at_bad_byte : IsBadByte ls rest → (ts : List Token) × IsCut first begun all ts (AtBadByte p)
  stops_at_bad_byte bad = stops_at (AtBadByte p) (bad_byte rest bad)

  pub stops_at_token : (best : Longest) → IsTokenPiece ls rest best → length items ≡ most_tokens → (ts : List Token) × IsCut first begun all ts (AtTooManyTokens p)
  stops_at_token best piece full =
      let none : so.room ≡ 0 = omega (arith, so.count) in
      stops_at (AtTooManyTokens p) (subst (λ n. Cuts ls m n p rest [] (AtTooManyTokens p)) (sym none) (too_many rest (take best.length rest) (drop best.length rest) piece.token))

  is_token_of : (best : Longest) (t : Token) → IsTokenPiece ls rest best → t ≡ record { kind = best.kind; place = p; spelling = take best.length rest; priority = best.priority } → t ≡ token_of ls p (take best.length rest)
  unfolding token_of
  is_token_of best t piece e = e ∙ (λ i. record { kind = piece.kind i; place = p; spelling = take best.length rest; priority = piece.priority i })

  one_less : length items ≢ most_tokens → (k : ℕ) × (so.room ≡ suc k)
  one_less few = counts so.room so.count
    where
      counts : (n : ℕ) → n + length items ≡ most_tokens → (k : ℕ) × (n ≡ suc k)
      counts zero e = absurd (few (omega arith))
      counts (suc k) e = (k, refl)

  -- behind a token the cut goes on with these symbols in this mode
  past_token : (ls' : List Lexeme) (m' : Mode) (q : Place) (w others : List ℕ) (best : Longest) (t : Token) (items' : List Token) → IsTokenPiece ls rest best → length items ≢ most_tokens → w ≡ take best.length rest → others ≡ drop best.length rest → q ≡ end_from p w →
      t ≡ record { kind = best.kind; place = p; spelling = w; priority = best.priority } → items' ≡ items ++ t ∷ [] →
      ((n : ℕ) (ts : List Token) (e : End) → Cuts ls' m' n (end_from p (take best.length rest)) (drop best.length rest) ts e → Cuts ls m (suc n) p rest (token_of ls p (take best.length rest) ∷ ts) e) → SoFar first begun all items' q ls' m' others
  past_token ls' m' q w others best t items' piece few ew eo eq et ei goes_on =
      let less = one_less few in
      let is : t ≡ token_of ls p (take best.length rest) = is_token_of best t piece (rw ew at et) in
      record {
        room = less.0;
        count = omega (arith, so.count, less.1, ap length ei, length-append items (t ∷ []));
        goes = λ ts e d.
            let whole = so.goes (token_of ls p (take best.length rest) ∷ ts) e (subst (λ n. Cuts ls m n p rest (token_of ls p (take best.length rest) ∷ ts) e) (sym less.1) (goes_on less.0 ts e (rw (eq, ew, eo) at d))) in
            rw (ei, append_assoc, is) whole;
      }

-- a token that closes nothing: the cut goes on in the part behind it
pub past_word : (first : List Lexeme) (begun : Mode) (all : List ℕ) (items : List Token) (p : Place) (part : Part) (built_in later : List Lexeme) (rest : List ℕ) → SoFar first begun all items p (symbols_of part built_in later) (mode_of part later) rest →
    (q : Place) (w others : List ℕ) (best : Longest) (t : Token) (items' : List Token) (part' : Part) → IsTokenPiece (symbols_of part built_in later) rest best → length items ≢ most_tokens → w ≡ take best.length rest → others ≡ drop best.length rest → q ≡ end_from p w →
    t ≡ record { kind = best.kind; place = p; spelling = w; priority = best.priority } → items' ≡ items ++ t ∷ [] → false ≡ ends_at part w → part' ≡ part_behind part w → SoFar first begun all items' q (symbols_of part' built_in later) (mode_of part' later) others
past_word first begun all items p HeadAlone built_in later rest so q w others best t items' part' piece few ew eo eq et ei open' eh =
    let goes_on : is_begin (take best.length rest) ≡ false = ap is_begin (sym ew) ∙ sym open' in
    subst (λ h. SoFar first begun all items' q (symbols_of h built_in later) (mode_of h later) others) (sym eh)
    (past_token first begun all items p built_in Stop rest so built_in Stop q w others best t items' piece few ew eo eq et ei (λ n ts e d. token rest (take best.length rest) (drop best.length rest) ts e piece.token goes_on d))
past_word first begun all items p Behind built_in later rest so q w others best t items' part' piece few ew eo eq et ei open' eh =
    subst (λ h. SoFar first begun all items' q (symbols_of h built_in later) (mode_of h later) others) (sym eh)
    (past_token first begun all items p later Same rest so later Same q w others best t items' piece few ew eo eq et ei (λ n ts e d. token rest (take best.length rest) (drop best.length rest) ts e piece.token refl d))
past_word first begun all items p Head built_in later rest so q w others best t items' part' piece few ew eo eq et ei open' eh =
    subst (λ h. SoFar first begun all items' q (symbols_of h built_in later) (mode_of h later) others) (sym eh) (by_word (is_begin w) refl)
  where
    by_word : (b : Bool) → is_begin w ≡ b → SoFar first begun all items' q (symbols_of (if b then Behind else Head) built_in later) (mode_of (if b then Behind else Head) later) others
    by_word false e =
        past_token first begun all items p built_in (Switch later) rest so built_in (Switch later) q w others best t items' piece few ew eo eq et ei (λ n ts f d. token rest (take best.length rest) (drop best.length rest) ts f piece.token (ap is_begin (sym ew) ∙ e) d)
    by_word true e =
        past_token first begun all items p built_in (Switch later) rest so later Same q w others best t items' piece few ew eo eq et ei (λ n ts f d. switching rest (take best.length rest) (drop best.length rest) ts f piece.token (ap is_begin (sym ew) ∙ e) d)

-- with this token the cut ends
pub closed_by : (first : List Lexeme) (begun : Mode) (all : List ℕ) (items : List Token) (p : Place) (part : Part) (built_in later : List Lexeme) (rest : List ℕ) → SoFar first begun all items p (symbols_of part built_in later) (mode_of part later) rest →
    (q : Place) (w : List ℕ) (best : Longest) (t : Token) (items' : List Token) → IsTokenPiece (symbols_of part built_in later) rest best → length items ≢ most_tokens → w ≡ take best.length rest → q ≡ end_from p w →
    t ≡ record { kind = best.kind; place = p; spelling = w; priority = best.priority } → items' ≡ items ++ t ∷ [] → true ≡ ends_at part w → IsCut first begun all items' (Whole q)
closed_by first begun all items p HeadAlone built_in later rest so q w best t items' piece few ew eq et ei closed =
    let less = one_less first begun all items p built_in Stop rest so few in
    let is : t ≡ token_of built_in p (take best.length rest) = is_token_of first begun all items p built_in Stop rest so best t piece (rw ew at et) in
    let here : is_begin (take best.length rest) ≡ true = ap is_begin (sym ew) ∙ sym closed in
    let whole = so.goes (token_of built_in p (take best.length rest) ∷ []) (Whole (end_from p (take best.length rest))) (subst (λ n. Cuts built_in Stop n p rest (token_of built_in p (take best.length rest) ∷ []) (Whole (end_from p (take best.length rest)))) (sym less.1) (closing rest (take best.length rest) (drop best.length rest) piece.token here)) in
    rw (ei, is, eq, ew) whole
closed_by first begun all items p Head built_in later rest so q w best t items' piece few ew eq et ei closed = cc
closed_by first begun all items p Behind built_in later rest so q w best t items' piece few ew eq et ei closed = cc

pub past_separator : (first : List Lexeme) (begun : Mode) (all : List ℕ) (items : List Token) (p : Place) (ls : List Lexeme) (m : Mode) (rest : List ℕ) (q : Place) (c others : List ℕ) → SoFar first begun all items p ls m rest → BeginsWithSeparator rest → c ≡ take 1 rest → others ≡ drop 1 rest → q ≡ end_from p c → SoFar first begun all items q ls m others
past_separator first begun all items p ls m [] q c others so b ec eo eq = absurd b
past_separator first begun all items p ls m (x ∷ rest) q c others so b ec eo eq =
    so_far_past first begun all items p ls m (x ∷ rest) so q others (λ ts e d. separator x rest ts e b (rw (eq, ec, eo) at d))

pub all_cut : (first : List Lexeme) (begun : Mode) (all : List ℕ) (items : List Token) (p : Place) (ls : List Lexeme) (m : Mode) (rest : List ℕ) → SoFar first begun all items p ls m rest → length rest ≡ 0 → IsCut first begun all items (Whole p)
all_cut first begun all items p ls m [] so e = rw append-nil at (so.goes [] (Whole p) end)
all_cut first begun all items p ls m (b ∷ rest) so e = absurd (omega arith)
