-- What kinds of words there are, and which options they are.
use Rattle.std.proofs.Common.{◌≡◌, ℕ, ◌+◌, ◌==◌, nat_eq, nat_le, Bool, true, false, ◌&&◌, if◌then◌else◌, List, [], ◌∷◌, ◌++◌, suc, length, take, drop, Option, Some, None, option_map, refl, ap, ap₂, sym, subst, ◌∙◌, codes, true≢false, one-add, eqb-true, arith}
use Rattle.std.specs.List.{list_any, before_first, after_first, position_or_len, starts_with}
use Rattle.std.specs.Str.{bytes_eq}
use Rattle.std.proofs.lemmas.Slice.Eq.{bytes_eq-Decides, starts_is}
use Rattle.std.proofs.lemmas.Bool.Decides.{nat_tests, Decides-eqb}
use Rattle.clap.specs.Lexer.{name_and_value, long_of, short_of}
use Rattle.mz_words.specs.OptionWord.{Other, option_word}
use Rattle.mz_words.specs.Words.{value_of, names_article, number_of_digits}

abbrev pub Text : Type 0
Text = List ℕ

pub same_text : (xs : Text) → bytes_eq xs xs ≡ true
same_text xs = (bytes_eq-Decides xs xs).1 refl

pub equal_texts : (xs ys : Text) → bytes_eq xs ys ≡ true → xs ≡ ys
equal_texts xs ys e = (bytes_eq-Decides xs ys).0 e

-- ---- words cut at `=`

abbrev is_equals : ℕ → Bool
is_equals x = x == 61

append-rejoined : (xs : Text) → list_any is_equals xs ≡ true → before_first is_equals xs ++ 61 ∷ after_first is_equals xs ≡ xs
append-rejoined [] e = absurd (true≢false (sym e))
append-rejoined (x ∷ xs) e = go (x == 61) refl (append-rejoined xs)
  where
    go : (t : Bool) → (x == 61) ≡ t → (list_any is_equals xs ≡ true → before_first is_equals xs ++ 61 ∷ after_first is_equals xs ≡ xs)
        → before_first is_equals (x ∷ xs) ++ 61 ∷ after_first is_equals (x ∷ xs) ≡ x ∷ xs
    go true t ih = rw t (ap (λ (y : ℕ). y ∷ xs) (sym (eqb-true x 61 t)))
    go false t ih =
        let n = position_or_len is_equals xs in
        let rest : list_any is_equals xs ≡ true = rw t at e in
        let far : (1 + n) + 1 ≡ suc (n + 1) = omega arith in
        rw t (ap₂ (λ (a b : Text). a ++ 61 ∷ b) (ap (λ (k : ℕ). take k (x ∷ xs)) (one-add n)) (ap (λ (k : ℕ). drop k (x ∷ xs)) far) ∙ ap (λ (ys : Text). x ∷ ys) (ih rest))

before_first-whole : (xs : Text) → list_any is_equals xs ≡ false → before_first is_equals xs ≡ xs
before_first-whole [] e = refl
before_first-whole (x ∷ xs) e = go (x == 61) refl (before_first-whole xs)
  where
    go : (t : Bool) → (x == 61) ≡ t → (list_any is_equals xs ≡ false → before_first is_equals xs ≡ xs) → before_first is_equals (x ∷ xs) ≡ x ∷ xs
    go true t ih = absurd (true≢false (rw t at e))
    go false t ih =
        let n = position_or_len is_equals xs in
        let rest : list_any is_equals xs ≡ false = rw t at e in
        rw t (ap (λ (k : ℕ). take k (x ∷ xs)) (one-add n) ∙ ap (λ (ys : Text). x ∷ ys) (ih rest))

-- a name, and a value behind `=`
abbrev pub joined : Text → Option Text → Text
joined name None = name
joined name (Some value) = name ++ 61 ∷ value

joined_again : (xs : Text) → joined (name_and_value xs).0 (name_and_value xs).1 ≡ xs
joined_again xs = go (list_any is_equals xs) refl
  where
    go : (t : Bool) → list_any is_equals xs ≡ t → joined (name_and_value xs).0 (name_and_value xs).1 ≡ xs
    go true t = rw t (append-rejoined xs t)
    go false t = rw t (before_first-whole xs t)

-- ---- kinds of words

-- `--`; `--name` or `--name=value`; another word that begins with `-` and has more; any other word
pub data Kind (w : Text) : Type 0 where
  dashes : w ≡ codes "--" → Kind w
  long : (name : Text) (value : Option Text) → bytes_eq w (codes "--") ≡ false → long_of w ≡ Some (name, value) → w ≡ 45 ∷ 45 ∷ joined name value → Kind w
  short : (y : ℕ) (ys : Text) → w ≡ 45 ∷ y ∷ ys → bytes_eq w (codes "--") ≡ false → long_of w ≡ None → short_of w ≡ Some (y ∷ ys) → option_word w ≡ Other → Kind w
  plain : bytes_eq w (codes "--") ≡ false → long_of w ≡ None → short_of w ≡ None → option_word w ≡ Other → Kind w

other_way : (x : ℕ) → (x == 45) ≡ false → (45 == x) ≡ false
other_way x e = grind (arith, nat_tests)

no_word : Kind []
unfolding option_word
no_word = plain refl refl refl refl

minus : Kind (45 ∷ [])
unfolding option_word
minus = plain refl refl refl refl

first_other : (x : ℕ) (xs : Text) → (x == 45) ≡ false → (45 == x) ≡ false → Kind (x ∷ xs)
unfolding option_word
first_other x xs e f = plain (rw e) (rw e) (rw e) (rw (e, f))

second_other : (y : ℕ) (ys : Text) → (y == 45) ≡ false → (45 == y) ≡ false → Kind (45 ∷ y ∷ ys)
unfolding option_word
second_other y ys e f = short y ys refl (rw e) (rw e) (rw e) (rw (e, f))

two_dashes : (ys : Text) → Kind (45 ∷ 45 ∷ ys)
two_dashes [] = dashes refl
two_dashes (z ∷ zs) = long (name_and_value (z ∷ zs)).0 (name_and_value (z ∷ zs)).1 refl refl (sym (ap (λ (r : Text). 45 ∷ 45 ∷ r) (joined_again (z ∷ zs))))

one_dash : (xs : Text) → Kind (45 ∷ xs)
one_dash [] = minus
one_dash (y ∷ ys) = go (y == 45) refl
  where
    go : (t : Bool) → (y == 45) ≡ t → Kind (45 ∷ y ∷ ys)
    go true t = subst (λ (b : ℕ). Kind (45 ∷ b ∷ ys)) (sym (eqb-true y 45 t)) (two_dashes ys)
    go false t = second_other y ys t (other_way y t)

pub kind_of_word : (w : Text) → Kind w
kind_of_word [] = no_word
kind_of_word (x ∷ xs) = go (x == 45) refl
  where
    go : (t : Bool) → (x == 45) ≡ t → Kind (x ∷ xs)
    go true t = subst (λ (b : ℕ). Kind (b ∷ xs)) (sym (eqb-true x 45 t)) (one_dash xs)
    go false t = first_other x xs t (other_way x t)

-- ---- words that begin with `-`

no_third : (a b : Bool) → (a && b && false) ≡ false
no_third true true = refl
no_third true false = refl
no_third false true = refl
no_third false false = refl

-- such a word is no value, and no name of an article
pub dash_value : (xs : Text) → value_of (45 ∷ xs) ≡ None
dash_value xs = ap (λ (b : Bool). if b then Some (number_of_digits (45 ∷ xs)) else None) (no_third (nat_le 1 (length (45 ∷ xs))) (nat_le (length (45 ∷ xs)) 4))

pub dash_name : (xs : Text) → names_article (45 ∷ xs) ≡ false
dash_name xs = refl

-- ---- options of other names

not_true : (b : Bool) → (b ≡ true → ⊥) → b ≡ false
not_true true h = absurd (h refl)
not_true false h = refl

same_value : (x y : Text) → Some x ≡ Some y → x ≡ y
same_value x y e = cc

other_name : (w lit name n : Text) (value v : Option Text) → long_of w ≡ Some (name, value) → long_of lit ≡ Some (n, v) → bytes_eq n name ≡ false → w ≡ lit → ⊥
other_name w lit name n value v e f differs same =
    let met : Some (name, value) ≡ Some (n, v) = sym e ∙ ap long_of same ∙ f in
    let equal : name ≡ n = same_value name n (ap (option_map (λ (p : Text × Option Text). p.0)) met) in
    true≢false (sym (same_text n) ∙ ap (bytes_eq n) (sym equal) ∙ differs)

other_text : (w lit name n : Text) (value v : Option Text) → long_of w ≡ Some (name, value) → long_of lit ≡ Some (n, v) → bytes_eq n name ≡ false → bytes_eq w lit ≡ false
other_text w lit name n value v e f differs = not_true _ (λ t. other_name w lit name n value v e f differs (equal_texts w lit t))

other_start : (w start name n : Text) (value : Option Text) → long_of w ≡ Some (name, value) → long_of (start ++ drop (length start) w) ≡ Some (n, Some (drop (length start) w))
    → bytes_eq n name ≡ false → starts_with nat_eq w start ≡ false
other_start w start name n value e f differs =
    not_true _ (λ t. other_name w (start ++ drop (length start) w) name n value (Some (drop (length start) w)) e f differs ((starts_is Decides-eqb w start (starts_with nat_eq w start) refl).0 t))

-- an option of a name that isn't known
pub unknown_word : (w name : Text) (value : Option Text) → bytes_eq w (codes "--") ≡ false → long_of w ≡ Some (name, value) → bytes_eq (codes "workers") name ≡ false
    → bytes_eq (codes "generate") name ≡ false → bytes_eq (codes "list") name ≡ false → option_word w ≡ Other
unfolding option_word
unknown_word w name value d e a b c =
    rw (
      d,
      other_text w (codes "--list") name (codes "list") value None e refl c,
      other_text w (codes "--workers") name (codes "workers") value None e refl a,
      other_text w (codes "--generate") name (codes "generate") value None e refl b,
      other_start w (codes "--workers=") name (codes "workers") value e refl a,
      other_start w (codes "--generate=") name (codes "generate") value e refl b,
    )
