-- The longest token at the start of a text, and comments.
use Rattle.std.proofs.Common.{◌≡◌, ℕ, suc, ◌+◌, ◌<◌, ◌≤◌, ◌⊎◌, inl, inr, ⊎_elim, Bool, true, false, not, cond, ◌&&◌, ◌||◌, eqb, nat_lt, List, [], ◌∷◌, ◌++◌, length, get_or, take, drop, Some, None, refl, sym, subst, arith, one-add}
use Rattle.std.specs.Prelude.{find, position}
use Rattle.std.specs.List.{list_any, list_all, prefix_len}
use Rattle.std.proofs.lemmas.List.{take-append-drop, length-take-le}
use borrow.Author.Tests.{ltb-true, ltb-false, eqb-true}
use Rattle.mz_base.specs.Words.{is_word_byte}
use Rattle.mz_base.specs.declared.token.TokenKind.{TokenKind}
use Rattle.mz_lex.specs.declared.lexeme.Lexeme.{Lexeme}
use Rattle.mz_lex.specs.declared.lexeme.Longest.{Longest}
use Rattle.mz_lex.specs.Longest.{IsLongestLexeme}
use Rattle.mz_lex.specs.Tokens.{is_separator, opens_comment, opens_pragma, opens_token, is_spelled, lexeme_of, is_lexeme, is_spelling, word_kind, is_line_end, EndsLine, IsBadByte}
use Rattle.mz_lex.specs.Piece.{comment_len, word_len, IsLongestToken, IsTokenPiece, IsCommentPiece}

-- tests

and_both : (t u : Bool) → (t && u) ≡ true → (t ≡ true) × (u ≡ true)
and_both true u h = (refl, h)
and_both false u h = cc

or_one : (t u : Bool) → (t || u) ≡ true → (t ≡ true) ⊎ (u ≡ true)
or_one true u h = inl refl
or_one false u h = inr h

or_first : (t u : Bool) → t ≡ true → (t || u) ≡ true
or_first t u h = rw h refl

or_second : (t u : Bool) → u ≡ true → (t || u) ≡ true
or_second true u h = refl
or_second false u h = h

and_false : (t u : Bool) → (t && u) ≡ false → u ≡ true → t ≡ false
and_false true u h k = cc
and_false false u h k = refl

lt-ltb : (a b : ℕ) → a < b → nat_lt a b ≡ true
lt-ltb a b h = holds (nat_lt a b) refl
  where
    holds : (t : Bool) → nat_lt a b ≡ t → t ≡ true
    holds true e = refl
    holds false e = absurd (omega (arith, ltb-false a b e))

not_true : (t : Bool) → (t ≡ true → ⊥) → t ≡ false
not_true true h = absurd (h refl)
not_true false h = refl

-- the front that passes a test

prefix_len-le : (p : ℕ → Bool) (xs : List ℕ) → prefix_len p xs ≤ length xs
prefix_len-le p [] = omega arith
prefix_len-le p (x ∷ xs) = elim (p x) as (λ t. cond t (1 + prefix_len p xs) 0 ≤ suc (length xs)) [ true ↦ omega (arith, prefix_len-le p xs) | false ↦ omega arith ]

passes_front : (p : ℕ → Bool) (x m : ℕ) (xs : List ℕ) (t : Bool) → p x ≡ t → list_all p (take m xs) ≡ true → list_all p (take (cond t (1 + m) 0) (x ∷ xs)) ≡ true
passes_front p x m xs true h ih = rw (one-add, h) ih
passes_front p x m xs false h ih = refl

list_all-prefix : (p : ℕ → Bool) (xs : List ℕ) → list_all p (take (prefix_len p xs) xs) ≡ true
list_all-prefix p [] = refl
list_all-prefix p (x ∷ xs) = passes_front p x (prefix_len p xs) xs (p x) refl (list_all-prefix p xs)

prefix_len-at_least : (p : ℕ → Bool) (front back : List ℕ) → list_all p front ≡ true → length front ≤ prefix_len p (front ++ back)
prefix_len-at_least p [] back h = omega arith
prefix_len-at_least p (x ∷ front) back h =
    let both = and_both (p x) (list_all p front) h in
    rw both.0 (omega (arith, prefix_len-at_least p front back both.1))

-- look-ups

find-none : (q : Lexeme → Bool) (ls : List Lexeme) → list_any q ls ≡ false → find q ls ≡ None
find-none q [] h = refl
find-none q (l ∷ ls) h = missed (q l) (list_any q ls) h (find-none q ls)
  where
    missed : (t u : Bool) → (t || u) ≡ false → (u ≡ false → find q ls ≡ None) → cond t (Some l) (find q ls) ≡ None
    missed true u e ih = cc
    missed false u e ih = ih e

list_any-found : (q : Lexeme → Bool) (ls : List Lexeme) (l : Lexeme) → find q ls ≡ Some l → list_any q ls ≡ true
list_any-found q ls l h = found_in (list_any q ls) refl
  where
    found_in : (t : Bool) → list_any q ls ≡ t → t ≡ true
    found_in true e = refl
    found_in false e = let none = find-none q ls e in cc

-- a spelling is a lexeme's or a word, and has a byte
spelling_cases : (ls : List Lexeme) (w : List ℕ) → is_spelling ls w ≡ true → (is_lexeme ls w ≡ true) ⊎ (list_all is_word_byte w ≡ true)
spelling_cases ls w h = or_one (is_lexeme ls w) (list_all is_word_byte w) (and_both (nat_lt 0 (length w)) (is_lexeme ls w || list_all is_word_byte w) h).1

is_spelling-so : (ls : List Lexeme) (w : List ℕ) → 0 < length w → (is_lexeme ls w || list_all is_word_byte w) ≡ true → is_spelling ls w ≡ true
is_spelling-so ls w some h =
    let t : nat_lt 0 (length w) ≡ true = lt-ltb 0 (length w) some in
    rw t h

-- no spelling is longer than the longest lexeme and the word
no_longer_spelling : (ls : List Lexeme) (text : List ℕ) (best : Longest) (n : ℕ) → IsLongestLexeme ls text best → best.length ≤ n → word_len text ≤ n → (other more : List ℕ) → text ≡ other ++ more → is_spelling ls other ≡ true → length other ≤ n
no_longer_spelling ls text best n so le words other more e h =
    ⊎_elim (λ l. omega (arith, so.longest other more e l))
    (λ w. let at_least : length other ≤ word_len text = subst (λ t. length other ≤ word_len t) (sym e) (prefix_len-at_least is_word_byte other more w) in omega arith)
    (spelling_cases ls other h)

-- the lexeme is at least as long as the word
pub lexeme_longest : (ls : List Lexeme) (text : List ℕ) (best : Longest) (n : ℕ) → IsLongestLexeme ls text best → n ≡ word_len text → n ≤ best.length → IsLongestToken ls text best
lexeme_longest ls text best n so en le =
    let w : List ℕ = take best.length text in
    let size : length w ≡ best.length = length-take-le best.length text so.within in
    record {
      within = so.within;
      spells = λ h. is_spelling-so ls w (omega arith) (or_first (is_lexeme ls w) (list_all is_word_byte w) (list_any-found (λ l. is_spelled l w) ls (so.held h).0 (so.held h).1));
      kind = λ h. rw (so.held h).1 (sym (so.held h).2);
      priority = λ h. rw (so.held h).1 (sym (so.held h).3);
      longest = no_longer_spelling ls text best best.length so (omega arith) (omega arith);
    }

-- the word is longer
pub word_longest : (ls : List Lexeme) (text : List ℕ) (best : Longest) (n : ℕ) (kind : TokenKind) → IsLongestLexeme ls text best → n ≡ word_len text → best.length < n → kind ≡ word_kind (take n text) → IsLongestToken ls text (record { length = n; kind = kind; priority = 0 })
word_longest ls text best n kind so en lt ek =
    let w : List ℕ = take n text in
    let within : n ≤ length text = omega (arith, prefix_len-le is_word_byte text) in
    let size : length w ≡ n = length-take-le n text within in
    let words : list_all is_word_byte w ≡ true = subst (λ k. list_all is_word_byte (take k text) ≡ true) (sym en) (list_all-prefix is_word_byte text) in
    let no : is_lexeme ls w ≡ false = not_true (is_lexeme ls w) (λ h. absurd (omega (arith, so.longest w (drop n text) (sym (take-append-drop n text)) h))) in
    let none : lexeme_of ls w ≡ None = find-none (λ l. is_spelled l w) ls no in
    record {
      within = within;
      spells = λ h. is_spelling-so ls w (omega arith) (or_second (is_lexeme ls w) (list_all is_word_byte w) words);
      kind = λ h. rw none ek;
      priority = λ h. rw none refl;
      longest = no_longer_spelling ls text best n so (omega arith) (omega arith);
    }

-- comments

ends_line : (xs : List ℕ) → EndsLine (drop (comment_len xs) xs)
ends_line [] = tt
ends_line (x ∷ xs) = ends_here (comment_len xs) x xs (is_line_end x) refl (ends_line xs)
  where
    ends_here : (m x : ℕ) (xs : List ℕ) (t : Bool) → is_line_end x ≡ t → EndsLine (drop m xs) → EndsLine (drop (cond (not t) (1 + m) 0) (x ∷ xs))
    ends_here m x xs true h ih = h
    ends_here m x xs false h ih = rw one-add ih

opens_more : (text : List ℕ) → opens_comment text ≡ true → 0 < comment_len text
opens_more [] h = cc
opens_more (b ∷ bs) h =
    let colon : b ≡ 58 = sym (eqb-true 58 b (and_both (eqb 58 b) _ h).0) in
    let no_end : is_line_end b ≡ false = rw colon refl in
    rw no_end (omega arith)

pub comment_piece : (text : List ℕ) (n : ℕ) → opens_comment text ≡ true → opens_pragma text ≡ false → n ≡ comment_len text → IsCommentPiece text n
comment_piece text n opens pragma e =
    subst (IsCommentPiece text) (sym e) (record {
      comment = record {
        opens = opens;
        no_pragma = pragma;
        split = sym (take-append-drop (comment_len text) text);
        one_line = list_all-prefix (λ b. not (is_line_end b)) text;
        ends = ends_line text;
      };
      some = opens_more text opens;
      within = prefix_len-le (λ b. not (is_line_end b)) text;
    })

-- tokens

pub opens_token-so : (text : List ℕ) → 0 < length text → is_separator (get_or text 0 0) ≡ false → opens_comment text ≡ false → opens_token text ≡ true
opens_token-so [] some h k = absurd (omega arith)
opens_token-so (b ∷ bs) some h k = rw (h, k) refl

pub token_piece : (ls : List Lexeme) (text : List ℕ) (best : Longest) → opens_token text ≡ true → IsLongestToken ls text best → 0 < best.length → IsTokenPiece ls text best
token_piece ls text best opens so some =
    record {
      token = record {
        opens = opens;
        split = sym (take-append-drop best.length text);
        spells = so.spells some;
        longest = λ other more e h. omega (arith, so.longest other more e h, length-take-le best.length text so.within);
      };
      some = some;
      within = so.within;
      kind = so.kind some;
      priority = so.priority some;
    }

pub no_token : (ls : List Lexeme) (text : List ℕ) (best : Longest) → opens_token text ≡ true → IsLongestToken ls text best → best.length ≤ 0 → IsBadByte ls text
no_token ls text best opens so none =
    record {
      opens = opens;
      no_spelling = λ other more e. not_true (is_spelling ls other) (λ h. absurd (omega (arith, so.longest other more e h, ltb-true 0 (length other) (and_both (nat_lt 0 (length other)) _ h).0)));
    }

not_chosen : (t : Bool) (n : ℕ) → None ≡ cond t (Some n) None → t ≡ false
not_chosen true n h = cc
not_chosen false n h = refl

pub length-no_line_end : (bytes : List ℕ) → None ≡ position is_line_end bytes → length bytes ≡ comment_len bytes
length-no_line_end bytes h =
    let n : ℕ = comment_len bytes in
    let past : length bytes ≤ n = ltb-false n (length bytes) (not_chosen (nat_lt n (length bytes)) n h) in
    omega (arith, prefix_len-le (λ b. not (is_line_end b)) bytes)
