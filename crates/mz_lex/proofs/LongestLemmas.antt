-- Finding the longest lexeme at the start of a text.
use Rattle.std.proofs.Common.{◌≡◌, ℕ, suc, zero, ◌+◌, ◌-◌, ◌<◌, ◌≤◌, ◌⊎◌, inl, inr, ⊎_elim, Bool, true, false, cond, ◌||◌, nat_lt, List, [], ◌∷◌, ◌++◌, length, get_or, take, drop, Some, None, refl, sym, ap, ◌∙◌, arith, length-append}
use Rattle.std.specs.Prelude.{find, min}
use Rattle.std.specs.List.{slice_get, list_any}
use Rattle.std.specs.Str.{bytes_eq}
use Rattle.std.proofs.lemmas.List.{take_more, drop_all}
use Rattle.std.proofs.Math.Seq.{drop-cons, take-append_seam}
use Rattle.std.proofs.lemmas.List.Folds.{list_any-append}
use Rattle.std.proofs.lemmas.Slice.Eq.{bytes_eq-Decides}
use borrow.Author.Tests.{ltb-true, ltb-false}
use Rattle.mz_voc.specs.declared.spelled.Spelled.{Spelled}
use Rattle.mz_voc.specs.Spelled.{value_of}
use Rattle.mz_lex.specs.declared.lexeme.Lexeme.{Lexeme}
use Rattle.mz_lex.specs.declared.lexeme.Longest.{Longest}
use Rattle.mz_lex.specs.Tokens.{is_spelled, lexeme_of, is_lexeme}
use Rattle.mz_lex.specs.Longest.{IsLongestLexeme}
use Rattle.mz_lex.specs.SymbolTable.{lexeme_at, FindsFirst, NoneLonger}

or_one : (t u : Bool) → (t || u) ≡ true → (t ≡ true) ⊎ (u ≡ true)
or_one true u h = inl refl
or_one false u h = inr h

-- the index

slice_get-got : (ls : List Lexeme) (n : ℕ) (l : Lexeme) → n < length ls → l ≡ get_or ls n l → slice_get ls n ≡ Some l
slice_get-got [] n l lt e = absurd (omega arith)
slice_get-got (x ∷ ls) zero l lt e = ap Some (sym e)
slice_get-got (x ∷ ls) (suc n) l lt e = slice_get-got ls n l (omega arith) e

-- no lexeme yet
pub finds_none : (lexemes : List Lexeme) (positions : Spelled ℕ) (n : ℕ) → n ≡ length lexemes → ((spelling : List ℕ) → value_of positions spelling ≡ None) → FindsFirst lexemes positions (drop n lexemes)
finds_none lexemes positions n e empty spelling =
    let over : drop n lexemes ≡ [] = drop_all n lexemes (omega arith) in
    rw (empty spelling, over) refl

-- one more lexeme in front
pub finds_more : (lexemes : List Lexeme) (old new : Spelled ℕ) (p n : ℕ) (l : Lexeme) (written : List ℕ) → 0 < p → p ≤ length lexemes → n ≡ p - 1 → l ≡ get_or lexemes n l → FindsFirst lexemes old (drop p lexemes) → written ≡ l.spelling →
    ((spelling : List ℕ) → value_of new spelling ≡ cond (bytes_eq written spelling) (Some n) (value_of old spelling)) → FindsFirst lexemes new (drop n lexemes)
finds_more lexemes old new p n l written some le en at so ew put spelling =
    let lt : n < length lexemes = omega arith in
    let next : p ≡ suc n = omega arith in
    let cut : drop n lexemes ≡ l ∷ drop (suc n) lexemes = drop-cons lexemes n l lt ∙ ap (λ z. z ∷ drop (suc n) lexemes) (sym at) in
    let read : value_of new spelling ≡ cond (bytes_eq l.spelling spelling) (Some n) (value_of old spelling) = put spelling ∙ ap (λ w. cond (bytes_eq w spelling) (Some n) (value_of old spelling)) ew in
    let rest : lexeme_at lexemes (value_of old spelling) ≡ lexeme_of (drop (suc n) lexemes) spelling = so spelling ∙ ap (λ k. lexeme_of (drop k lexemes) spelling) next in
    ap (lexeme_at lexemes) read ∙ chosen rest (slice_get-got lexemes n l lt at) (bytes_eq l.spelling spelling) ∙ ap (λ ls. lexeme_of ls spelling) (sym cut)
  where
    chosen : lexeme_at lexemes (value_of old spelling) ≡ lexeme_of (drop (suc n) lexemes) spelling → slice_get lexemes n ≡ Some l → (t : Bool) → lexeme_at lexemes (cond t (Some n) (value_of old spelling)) ≡ cond t (Some l) (lexeme_of (drop (suc n) lexemes) spelling)
    chosen rest here true = here
    chosen rest here false = rest

-- the most bytes

either_spelled : (seen : List Lexeme) (l : Lexeme) (other : List ℕ) → is_lexeme (seen ++ l ∷ []) other ≡ true → (is_lexeme seen other ≡ true) ⊎ (l.spelling ≡ other)
either_spelled seen l other h =
    let split = list_any-append (λ k. is_spelled k other) seen (l ∷ []) in
    ⊎_elim inl (λ e. ⊎_elim (λ s. inr ((bytes_eq-Decides l.spelling other).0 s)) (λ s. cc) (or_one (is_spelled l other) false e)) (or_one (is_lexeme seen other) (is_spelled l other || false) (rw split at h))

pub longer_more : (ls : List Lexeme) (i : ℕ) (l : Lexeme) (most most' : ℕ) → i < length ls → l ≡ get_or ls i l → NoneLonger (take i ls) most → most ≤ most' → length l.spelling ≤ most' → NoneLonger (take (i + 1) ls) most'
longer_more ls i l most most' lt at so le here spelling h =
    let cut : take (i + 1) ls ≡ take i ls ++ l ∷ [] = take_more ls i l lt ∙ ap (λ z. take i ls ++ z ∷ []) (sym at) in
    ⊎_elim (λ s. omega (arith, so spelling s)) (λ s. omega (arith, ap length s)) (either_spelled (take i ls) l spelling (rw cut at h))

-- the search, from the most bytes down

-- no lexeme of more bytes begins the text
pub record NoneAbove (lexemes : List Lexeme) (text : List ℕ) (n : ℕ) : Type 0 where
  pub within : n ≤ length text
  pub longest : (other more : List ℕ) → text ≡ other ++ more → is_lexeme lexemes other ≡ true → length other ≤ n

pub none_above : (lexemes : List Lexeme) (text : List ℕ) (most n : ℕ) → NoneLonger lexemes most → n ≡ min most (length text) → NoneAbove lexemes text n
none_above lexemes text most n so e =
    record {
      within = omega arith;
      longest = λ other more s h. omega (arith, so other h, ap length s, length-append other more);
    }

missed : (q : Lexeme → Bool) (ls : List Lexeme) → find q ls ≡ None → list_any q ls ≡ true → ⊥
missed q [] e h = cc
missed q (l ∷ ls) e h = past (q l) (list_any q ls) e h (missed q ls)
  where
    past : (t u : Bool) → cond t (Some l) (find q ls) ≡ None → (t || u) ≡ true → (find q ls ≡ None → u ≡ true → ⊥) → ⊥
    past true u e h ih = cc
    past false u e h ih = ih e h

pub none_at : (lexemes : List Lexeme) (text : List ℕ) (n : ℕ) → NoneAbove lexemes text n → 0 < n → None ≡ lexeme_of lexemes (take n text) → NoneAbove lexemes text (n - 1)
none_at lexemes text n so some none =
    record {
      within = omega (arith, so.within);
      longest = λ other more s h. below other more s h (nat_lt (n - 1) (length other)) refl;
    }
  where
    below : (other more : List ℕ) → text ≡ other ++ more → is_lexeme lexemes other ≡ true → (t : Bool) → nat_lt (n - 1) (length other) ≡ t → length other ≤ n - 1
    below other more s h false e = ltb-false (n - 1) (length other) e
    below other more s h true e =
        let same : n ≡ length other = omega (arith, so.longest other more s h, ltb-true (n - 1) (length other) e) in
        let front : take n text ≡ other = ap (take n) s ∙ ap (λ k. take k (other ++ more)) same ∙ take-append_seam other more in
        absurd (missed (λ l. is_spelled l other) lexemes (ap (lexeme_of lexemes) (sym front) ∙ sym none) h)

pub found_at : (lexemes : List Lexeme) (text : List ℕ) (n : ℕ) (l : Lexeme) → NoneAbove lexemes text n → Some l ≡ lexeme_of lexemes (take n text) → IsLongestLexeme lexemes text (record { length = n; kind = l.kind; priority = l.priority })
found_at lexemes text n l so found = record { within = so.within; held = λ h. (l, sym found, refl, refl); longest = so.longest }

pub none_found : (lexemes : List Lexeme) (text : List ℕ) (n : ℕ) (best : Longest) → NoneAbove lexemes text n → n ≡ 0 → best.length ≡ 0 → IsLongestLexeme lexemes text best
none_found lexemes text n best so e zero' =
    record {
      within = omega arith;
      held = λ h. absurd (omega arith);
      longest = λ other more s h. omega (arith, so.longest other more s h);
    }
