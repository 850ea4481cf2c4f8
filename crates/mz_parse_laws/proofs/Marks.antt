-- Tokens have one mark each.
use Rattle.std.proofs.Common.{◌≡◌, ℕ, zero, suc, ◌<◌, Bool, true, false, List, [], ◌∷◌, arith, drop, get_or, length, map, refl, sym, ap, subst, ◌∙◌, take}
use Rattle.mz_base.specs.declared.token.Mark.{Mark}
use Rattle.mz_base.specs.declared.token.Mark.TheVariants as marks
use Rattle.mz_base.specs.declared.token.MarkedToken.{MarkedToken}
use Rattle.mz_base.specs.declared.token.Token.{Token}
use Rattle.mz_forms.proofs.Compose.{head_of, tail_of}
use Rattle.mz_marks.specs.declared.token_class.TokenClass.{TokenClass}
use Rattle.mz_marks.specs.declared.token_class.TokenClass.TheVariants as classes
use Rattle.mz_marks.specs.Marks.{AreMarked, AreMarks, IsMark}
use Rattle.mz_marks.specs.TokenClass.{class_of}

abbrev is_comma : TokenClass → Bool
is_comma classes.Comma = true
is_comma _ = false

plain_mark : (r : TokenClass) (before rest : List TokenClass) (m : Mark) → is_comma r ≡ false → IsMark before (r ∷ rest) m → m ≡ marks.NotComma
plain_mark classes.Comma before rest m h is = cc
plain_mark classes.Identifier before rest marks.NotComma h is = refl
plain_mark classes.Identifier before rest marks.List h is = absurd is
plain_mark classes.Identifier before rest marks.Dividing h is = absurd is
plain_mark classes.Open before rest marks.NotComma h is = refl
plain_mark classes.Open before rest marks.List h is = absurd is
plain_mark classes.Open before rest marks.Dividing h is = absurd is
plain_mark classes.Close before rest marks.NotComma h is = refl
plain_mark classes.Close before rest marks.List h is = absurd is
plain_mark classes.Close before rest marks.Dividing h is = absurd is
plain_mark classes.Bracket before rest marks.NotComma h is = refl
plain_mark classes.Bracket before rest marks.List h is = absurd is
plain_mark classes.Bracket before rest marks.Dividing h is = absurd is
plain_mark classes.Being before rest marks.NotComma h is = refl
plain_mark classes.Being before rest marks.List h is = absurd is
plain_mark classes.Being before rest marks.Dividing h is = absurd is
plain_mark classes.Arrow before rest marks.NotComma h is = refl
plain_mark classes.Arrow before rest marks.List h is = absurd is
plain_mark classes.Arrow before rest marks.Dividing h is = absurd is
plain_mark classes.For before rest marks.NotComma h is = refl
plain_mark classes.For before rest marks.List h is = absurd is
plain_mark classes.For before rest marks.Dividing h is = absurd is
plain_mark classes.Reserve before rest marks.NotComma h is = refl
plain_mark classes.Reserve before rest marks.List h is = absurd is
plain_mark classes.Reserve before rest marks.Dividing h is = absurd is
plain_mark classes.Semicolon before rest marks.NotComma h is = refl
plain_mark classes.Semicolon before rest marks.List h is = absurd is
plain_mark classes.Semicolon before rest marks.Dividing h is = absurd is
plain_mark classes.Structure before rest marks.NotComma h is = refl
plain_mark classes.Structure before rest marks.List h is = absurd is
plain_mark classes.Structure before rest marks.Dividing h is = absurd is
plain_mark classes.Aggregate before rest marks.NotComma h is = refl
plain_mark classes.Aggregate before rest marks.List h is = absurd is
plain_mark classes.Aggregate before rest marks.Dividing h is = absurd is
plain_mark classes.Other before rest marks.NotComma h is = refl
plain_mark classes.Other before rest marks.List h is = absurd is
plain_mark classes.Other before rest marks.Dividing h is = absurd is
plain_mark classes.Term before rest marks.NotComma h is = refl
plain_mark classes.Term before rest marks.List h is = absurd is
plain_mark classes.Term before rest marks.Dividing h is = absurd is

comma_mark : (before rest : List TokenClass) (m n : Mark) → IsMark before (classes.Comma ∷ rest) m → IsMark before (classes.Comma ∷ rest) n → m ≡ n
comma_mark before rest marks.Dividing marks.Dividing p q = refl
comma_mark before rest marks.List marks.List p q = refl
comma_mark before rest marks.Dividing marks.List p q = absurd (q p)
comma_mark before rest marks.List marks.Dividing p q = absurd (p q)
comma_mark before rest marks.NotComma n p q = absurd p
comma_mark before rest marks.List marks.NotComma p q = absurd q
comma_mark before rest marks.Dividing marks.NotComma p q = absurd q

one_mark : (before rest : List TokenClass) (m n : Mark) → IsMark before rest m → IsMark before rest n → m ≡ n
one_mark before [] m n p q = absurd p
one_mark before (r ∷ rest) m n p q = go (is_comma r) refl
  where
    comma_is : (r : TokenClass) → is_comma r ≡ true → r ≡ classes.Comma
    comma_is classes.Comma e = refl
    comma_is _ e = cc

    go : (c : Bool) → is_comma r ≡ c → m ≡ n
    go true e =
        let R : TokenClass → Mark → Type 0 = λ z k. IsMark before (z ∷ rest) k in
        comma_mark before rest m n (subst (λ (z : TokenClass). R z m) (comma_is r e) p) (subst (λ (z : TokenClass). R z n) (comma_is r e) q)
    go false e = plain_mark r before rest m e p ∙ sym (plain_mark r before rest n e q)

same_list : (xs ys : List Mark) → length xs ≡ length ys → ((i : ℕ) → i < length xs → get_or xs i marks.NotComma ≡ get_or ys i marks.NotComma) → xs ≡ ys
same_list [] [] e h = refl
same_list [] (y ∷ ys) e h = absurd (omega (arith, e))
same_list (x ∷ xs) [] e h = absurd (omega (arith, e))
same_list (x ∷ xs) (y ∷ ys) e h = ap (λ z. z ∷ xs) (h zero (omega arith)) ∙ ap (λ z. y ∷ z) (same_list xs ys (omega (arith, e)) (λ i l. h (suc i) (omega (arith, l))))

same_marks : (tokens : List TokenClass) (a b : List Mark) → AreMarks tokens a → AreMarks tokens b → a ≡ b
same_marks tokens a b p q = same_list a b (p.count ∙ sym q.count) (λ i l. let k : length a ≡ length tokens = p.count in let j : i < length tokens = omega (arith, k, l) in one_mark (take i tokens) (drop i tokens) _ _ (p.each i j) (q.each i j))

same_marked : (a b : List MarkedToken) → map (λ (m : MarkedToken). m.token) a ≡ map (λ (m : MarkedToken). m.token) b → map (λ (m : MarkedToken). m.mark) a ≡ map (λ (m : MarkedToken). m.mark) b → a ≡ b
same_marked [] [] e f = refl
same_marked [] (y ∷ b) e f = cc
same_marked (x ∷ a) [] e f = cc
same_marked (x ∷ a) (y ∷ b) e f = ap (λ z. z ∷ a) (one x y (head_of _ _ _ _ e) (head_of _ _ _ _ f)) ∙ ap (λ z. y ∷ z) (same_marked a b (tail_of _ _ _ _ e) (tail_of _ _ _ _ f))
  where
    one : (x y : MarkedToken) → x.token ≡ y.token → x.mark ≡ y.mark → x ≡ y
    one x y g h = ap (λ z. record { token = z; mark = x.mark }) g ∙ ap (λ z. record { token = y.token; mark = z }) h

-- The marks that commas have in a whole list are these alone.
pub one_marking : (tokens : List Token) (a b : List MarkedToken) → AreMarked tokens a → AreMarked tokens b → a ≡ b
one_marking tokens a b p q = same_marked a b (p.tokens_are ∙ sym q.tokens_are) (same_marks (map class_of tokens) _ _ p.marks_are q.marks_are)
