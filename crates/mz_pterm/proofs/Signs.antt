-- Tokens are told by their signs.
use Rattle.std.specs.Prelude.{◌==◌, codes, if◌then◌else◌}
use Rattle.std.specs.Str.{bytes_eq}
use Rattle.std.proofs.Common.{◌≡◌, ℕ, zero, suc, ◌≤◌, Bool, true, false, List, refl, sym, ap, subst, ◌∙◌, arith, eqb-true}
use Rattle.std.proofs.lemmas.Slice.Eq.{bytes_eq-Decides}
use Rattle.mz_base.specs.declared.place.Place.{Place}
use Rattle.mz_base.specs.declared.symbol_kind.SymbolKind.TheVariants as symbols
use Rattle.mz_base.specs.declared.token.TokenKind.{TokenKind}
use Rattle.mz_base.specs.declared.token.TokenKind.TheVariants as kinds
use Rattle.mz_base.specs.declared.token.Mark.{Mark}
use Rattle.mz_base.specs.declared.token.Mark.TheVariants as marks
use Rattle.mz_base.specs.declared.token.MarkedToken.{MarkedToken}
use Rattle.mz_tree.specs.declared.word.Word.{Word}
use Rattle.mz_tree.specs.Spelled.{marked, reserved, special, functor, argument, mode, symbol}
use Rattle.mz_pterm.specs.declared.sign.Sign.{Sign}
use Rattle.mz_pterm.specs.declared.sign.Sign.TheVariants as signs
use Rattle.mz_pterm.specs.Sign.{formula_sign, reserved_sign, argument_sign, special_sign, symbol_sign, plain_sign, comma_sign, unranked_sign, ranked_sign, sign_of, kind_of, argument_of}
use Rattle.mz_pterm.specs.Words.{is_fixed, fixed, is_named, named, word_of}

-- a choice by a spelling
choose : (T : Sign → Type 0) (s w : List ℕ) (r q : Sign) → (s ≡ w → T r) → T q → T (if bytes_eq s w then r else q)
choose T s w r q when_same other = go (bytes_eq s w) refl
  where
    go : (b : Bool) → bytes_eq s w ≡ b → T (if b then r else q)
    go true e = when_same ((bytes_eq-Decides s w).0 e)
    go false e = other

-- what the sign says of the token
abbrev pub Told : MarkedToken → Sign → Type 0
Told t signs.Identifier = t ≡ named signs.Identifier (word_of t)
Told t signs.Functor = t ≡ functor (word_of t) t.token.priority
Told t signs.Predicate = t ≡ named signs.Predicate (word_of t)
Told t signs.Attribute = t ≡ named signs.Attribute (word_of t)
Told t signs.Mode = t ≡ named signs.Mode (word_of t)
Told t signs.Structure = t ≡ named signs.Structure (word_of t)
Told t signs.Selector = t ≡ named signs.Selector (word_of t)
Told t signs.LeftBracket = t ≡ named signs.LeftBracket (word_of t)
Told t signs.RightBracket = t ≡ named signs.RightBracket (word_of t)
Told t (signs.Argument n) = (t ≡ argument t.token.place n) × (1 ≤ n) × (n ≤ 10)
Told t signs.Other = Unit {0}
Told t s = t ≡ fixed s t.token.place

-- a token that is no comma and has no priority
abbrev plain : TokenKind → Place → List ℕ → MarkedToken
plain k p s = marked k p s 0 marks.NotComma

mode_set : (w : Word) (s : List ℕ) → w.spelling ≡ s → s ≡ codes "set" → mode w ≡ marked kinds.Reserved w.place w.spelling 0 marks.NotComma
mode_set w s e f = let b : bytes_eq w.spelling (codes "set") ≡ true = (bytes_eq-Decides w.spelling (codes "set")).1 (e ∙ f) in ap (λ c. if c then marked kinds.Reserved w.place w.spelling 0 marks.NotComma else symbol symbols.Mode w) b

mode_other : (w : Word) → bytes_eq w.spelling (codes "set") ≡ false → mode w ≡ symbol symbols.Mode w
mode_other w b = ap (λ c. if c then marked kinds.Reserved w.place w.spelling 0 marks.NotComma else symbol symbols.Mode w) b

told_formula : (p : Place) (s : List ℕ) → Told (plain kinds.Reserved p s) (formula_sign s)
unfolding formula_sign
told_formula p s =
    let T : Sign → Type 0 = λ r. Told (plain kinds.Reserved p s) r in
    let w : (v : List ℕ) → s ≡ v → plain kinds.Reserved p s ≡ reserved p v = λ v e. ap (λ z. reserved p z) e in
    choose T s (codes "for") signs.For _ (w (codes "for"))
    (choose T s (codes "ex") signs.Ex _ (w (codes "ex"))
    (choose T s (codes "holds") signs.Holds _ (w (codes "holds"))
    (choose T s (codes "st") signs.St _ (w (codes "st"))
    (choose T s (codes "not") signs.Not _ (w (codes "not"))
    (choose T s (codes "contradiction") signs.Contradiction _ (w (codes "contradiction"))
    (choose T s (codes "thesis") signs.Thesis _ (w (codes "thesis"))
    (choose T s (codes "is") signs.Is _ (w (codes "is"))
    (choose T s (codes "or") signs.Or _ (w (codes "or"))
    (choose T s (codes "implies") signs.Implies _ (w (codes "implies"))
    (choose T s (codes "iff") signs.Iff signs.Other (w (codes "iff")) tt))))))))))

told_reserved : (p : Place) (s : List ℕ) → Told (plain kinds.Reserved p s) (reserved_sign s)
unfolding reserved_sign
told_reserved p s =
    let T : Sign → Type 0 = λ r. Told (plain kinds.Reserved p s) r in
    let w : (v : List ℕ) → s ≡ v → plain kinds.Reserved p s ≡ reserved p v = λ v e. ap (λ z. reserved p z) e in
    choose T s (codes "it") signs.It _ (w (codes "it"))
    (choose T s (codes "the") signs.The _ (w (codes "the"))
    (choose T s (codes "of") signs.Of _ (w (codes "of"))
    (choose T s (codes "over") signs.Over _ (w (codes "over"))
    (choose T s (codes "non") signs.Non _ (w (codes "non"))
    (choose T s (codes "be") signs.Be _ (w (codes "be"))
    (choose T s (codes "being") signs.Being _ (w (codes "being"))
    (choose T s (codes "set") signs.Mode _ (λ e. sym (mode_set (record { place = p; spelling = s }) s refl e)) (told_formula p s))))))))

told_argument : (p : Place) (s : List ℕ) → Told (plain kinds.Special p s) (argument_sign s)
unfolding argument_sign
told_argument p s =
    let T : Sign → Type 0 = λ r. Told (plain kinds.Special p s) r in
    let w : (v : List ℕ) → s ≡ v → plain kinds.Special p s ≡ special p v = λ v e. ap (λ z. special p z) e in
    choose T s (codes "$1") (signs.Argument 1) _ (λ e. (w (codes "$1") e, omega arith, omega arith))
    (choose T s (codes "$2") (signs.Argument 2) _ (λ e. (w (codes "$2") e, omega arith, omega arith))
    (choose T s (codes "$3") (signs.Argument 3) _ (λ e. (w (codes "$3") e, omega arith, omega arith))
    (choose T s (codes "$4") (signs.Argument 4) _ (λ e. (w (codes "$4") e, omega arith, omega arith))
    (choose T s (codes "$5") (signs.Argument 5) _ (λ e. (w (codes "$5") e, omega arith, omega arith))
    (choose T s (codes "$6") (signs.Argument 6) _ (λ e. (w (codes "$6") e, omega arith, omega arith))
    (choose T s (codes "$7") (signs.Argument 7) _ (λ e. (w (codes "$7") e, omega arith, omega arith))
    (choose T s (codes "$8") (signs.Argument 8) _ (λ e. (w (codes "$8") e, omega arith, omega arith))
    (choose T s (codes "$9") (signs.Argument 9) _ (λ e. (w (codes "$9") e, omega arith, omega arith))
    (choose T s (codes "$10") (signs.Argument 10) signs.Other (λ e. (w (codes "$10") e, omega arith, omega arith)) tt)))))))))

told_special : (p : Place) (s : List ℕ) → Told (plain kinds.Special p s) (special_sign s)
unfolding special_sign
told_special p s =
    let T : Sign → Type 0 = λ r. Told (plain kinds.Special p s) r in
    let w : (v : List ℕ) → s ≡ v → plain kinds.Special p s ≡ special p v = λ v e. ap (λ z. special p z) e in
    choose T s (codes "(") signs.Open _ (w (codes "("))
    (choose T s (codes ")") signs.Close _ (w (codes ")"))
    (choose T s (codes "(#") signs.OpenAggregate _ (w (codes "(#"))
    (choose T s (codes "#)") signs.CloseAggregate _ (w (codes "#)"))
    (choose T s (codes "{") signs.OpenBrace _ (w (codes "{"))
    (choose T s (codes "}") signs.CloseBrace _ (w (codes "}"))
    (choose T s (codes "[") signs.OpenSquare _ (w (codes "["))
    (choose T s (codes "]") signs.CloseSquare _ (w (codes "]"))
    (choose T s (codes "&") signs.And _ (w (codes "&")) (told_argument p s)))))))))

told_mode : (p : Place) (s : List ℕ) → Told (plain (kinds.Symbol symbols.Mode) p s) (symbol_sign symbols.Mode s)
unfolding symbol_sign
told_mode p s = go (bytes_eq s (codes "set")) refl
  where
    go : (b : Bool) → bytes_eq s (codes "set") ≡ b → Told (plain (kinds.Symbol symbols.Mode) p s) (if b then signs.Other else signs.Mode)
    go true e = tt
    go false e = sym (mode_other (record { place = p; spelling = s }) e)

told_plain : (k : TokenKind) (p : Place) (s : List ℕ) → Told (plain k p s) (plain_sign k s)
unfolding plain_sign symbol_sign
told_plain kinds.Reserved p s = told_reserved p s
told_plain kinds.Special p s = told_special p s
told_plain (kinds.Symbol symbols.Structure) p s = refl
told_plain (kinds.Symbol symbols.LeftBracket) p s = refl
told_plain (kinds.Symbol symbols.RightBracket) p s = refl
told_plain (kinds.Symbol symbols.Mode) p s = told_mode p s
told_plain (kinds.Symbol symbols.Functor) p s = refl
told_plain (kinds.Symbol symbols.Predicate) p s = refl
told_plain (kinds.Symbol symbols.Selector) p s = refl
told_plain (kinds.Symbol symbols.Attribute) p s = refl
told_plain kinds.Identifier p s = refl
told_plain kinds.Numeral p s = tt

told_comma : (r : Sign) (m : Mark) (k : TokenKind) (p : Place) (s : List ℕ) → ((q : Place) → Told (marked kinds.Special q (codes ",") 0 m) r) → Told (marked k p s 0 m) (comma_sign r k s)
unfolding comma_sign
told_comma r m kinds.Special p s h =
    let T : Sign → Type 0 = λ z. Told (marked kinds.Special p s 0 m) z in
    choose T s (codes ",") r signs.Other (λ e. let U : List ℕ → Type 0 = λ z. Told (marked kinds.Special p z 0 m) r in subst U (sym e) (h p)) tt
told_comma r m kinds.Reserved p s h = tt
told_comma r m (kinds.Symbol k) p s h = tt
told_comma r m kinds.Identifier p s h = tt
told_comma r m kinds.Numeral p s h = tt

told_unranked : (m : Mark) (k : TokenKind) (p : Place) (s : List ℕ) → Told (marked k p s 0 m) (unranked_sign m k s)
told_unranked marks.NotComma k p s = told_plain k p s
told_unranked marks.List k p s = told_comma signs.ListComma marks.List k p s (λ q. refl)
told_unranked marks.Dividing k p s = told_comma signs.DividingComma marks.Dividing k p s (λ q. refl)

-- a token with a priority
told_ranked : (m : Mark) (k : TokenKind) (p : Place) (s : List ℕ) (n : ℕ) → Told (marked k p s n m) (ranked_sign m k)
told_ranked marks.NotComma (kinds.Symbol symbols.Functor) p s n = refl
told_ranked marks.NotComma (kinds.Symbol symbols.Structure) p s n = tt
told_ranked marks.NotComma (kinds.Symbol symbols.LeftBracket) p s n = tt
told_ranked marks.NotComma (kinds.Symbol symbols.RightBracket) p s n = tt
told_ranked marks.NotComma (kinds.Symbol symbols.Mode) p s n = tt
told_ranked marks.NotComma (kinds.Symbol symbols.Predicate) p s n = tt
told_ranked marks.NotComma (kinds.Symbol symbols.Selector) p s n = tt
told_ranked marks.NotComma (kinds.Symbol symbols.Attribute) p s n = tt
told_ranked marks.NotComma kinds.Reserved p s n = tt
told_ranked marks.NotComma kinds.Special p s n = tt
told_ranked marks.NotComma kinds.Identifier p s n = tt
told_ranked marks.NotComma kinds.Numeral p s n = tt
told_ranked marks.List k p s n = tt
told_ranked marks.Dividing k p s n = tt

told_with : (m : Mark) (k : TokenKind) (p : Place) (s : List ℕ) (n : ℕ) → Told (marked k p s n m) (if n == 0 then unranked_sign m k s else ranked_sign m k)
told_with m k p s n = go (n == 0) refl
  where
    go : (b : Bool) → (n == 0) ≡ b → Told (marked k p s n m) (if b then unranked_sign m k s else ranked_sign m k)
    go true e = let U : ℕ → Type 0 = λ z. Told (marked k p s z m) (unranked_sign m k s) in subst U (sym (eqb-true n 0 e)) (told_unranked m k p s)
    go false e = told_ranked m k p s n

pub told : (t : MarkedToken) → Told t (sign_of t)
unfolding sign_of
told t = told_with t.mark t.token.kind t.token.place t.token.spelling t.token.priority

told_at : (t : MarkedToken) (s : Sign) → sign_of t ≡ s → Told t s
told_at t s e = let T : Sign → Type 0 = λ z. Told t z in subst T e (told t)

pub told_fixed : (s : Sign) (t : MarkedToken) → is_fixed s ≡ true → sign_of t ≡ s → t ≡ fixed s t.token.place
told_fixed s t h e = go s h (told_at t s e)
  where
    go : (s : Sign) → is_fixed s ≡ true → Told t s → t ≡ fixed s t.token.place
    go signs.Identifier h g = cc
    go signs.Functor h g = cc
    go signs.Predicate h g = cc
    go signs.Attribute h g = cc
    go signs.Mode h g = cc
    go signs.Structure h g = cc
    go signs.Selector h g = cc
    go signs.LeftBracket h g = cc
    go signs.RightBracket h g = cc
    go (signs.Argument n) h g = cc
    go signs.Other h g = cc
    go _ h g = g

pub told_named : (s : Sign) (t : MarkedToken) → is_named s ≡ true → sign_of t ≡ s → t ≡ named s (word_of t)
told_named s t h e = go s h (told_at t s e)
  where
    go : (s : Sign) → is_named s ≡ true → Told t s → t ≡ named s (word_of t)
    go signs.Identifier h g = g
    go signs.Predicate h g = g
    go signs.Attribute h g = g
    go signs.Mode h g = g
    go signs.Structure h g = g
    go signs.Selector h g = g
    go signs.LeftBracket h g = g
    go signs.RightBracket h g = g
    go _ h g = cc

pub told_functor : (t : MarkedToken) → sign_of t ≡ signs.Functor → t ≡ functor (word_of t) t.token.priority
told_functor t e = told_at t signs.Functor e

pub told_number : (t : MarkedToken) (n : ℕ) → sign_of t ≡ signs.Argument n → (t ≡ argument t.token.place n) × (1 ≤ n) × (n ≤ 10)
told_number t n e = told_at t (signs.Argument n) e

-- The signs of tokens.
pub sign_of-fixed : (s : Sign) (p : Place) → is_fixed s ≡ true → sign_of (fixed s p) ≡ s
unfolding sign_of plain_sign symbol_sign formula_sign reserved_sign special_sign argument_sign comma_sign
sign_of-fixed signs.It p h = refl
sign_of-fixed signs.The p h = refl
sign_of-fixed signs.Of p h = refl
sign_of-fixed signs.Over p h = refl
sign_of-fixed signs.Non p h = refl
sign_of-fixed signs.Be p h = refl
sign_of-fixed signs.Being p h = refl
sign_of-fixed signs.For p h = refl
sign_of-fixed signs.Ex p h = refl
sign_of-fixed signs.Holds p h = refl
sign_of-fixed signs.St p h = refl
sign_of-fixed signs.Not p h = refl
sign_of-fixed signs.Contradiction p h = refl
sign_of-fixed signs.Thesis p h = refl
sign_of-fixed signs.Is p h = refl
sign_of-fixed signs.Or p h = refl
sign_of-fixed signs.Implies p h = refl
sign_of-fixed signs.Iff p h = refl
sign_of-fixed signs.And p h = refl
sign_of-fixed signs.Open p h = refl
sign_of-fixed signs.Close p h = refl
sign_of-fixed signs.OpenAggregate p h = refl
sign_of-fixed signs.CloseAggregate p h = refl
sign_of-fixed signs.OpenBrace p h = refl
sign_of-fixed signs.CloseBrace p h = refl
sign_of-fixed signs.OpenSquare p h = refl
sign_of-fixed signs.CloseSquare p h = refl
sign_of-fixed signs.ListComma p h = refl
sign_of-fixed signs.DividingComma p h = refl
sign_of-fixed _ p h = cc

sign_of-mode : (w : Word) → sign_of (mode w) ≡ signs.Mode
unfolding sign_of plain_sign symbol_sign formula_sign reserved_sign special_sign argument_sign comma_sign
sign_of-mode w = go (bytes_eq w.spelling (codes "set")) refl
  where
    go : (b : Bool) → bytes_eq w.spelling (codes "set") ≡ b → sign_of (if b then marked kinds.Reserved w.place w.spelling 0 marks.NotComma else symbol symbols.Mode w) ≡ signs.Mode
    go true e = let S : List ℕ → Type 0 = λ z. sign_of (marked kinds.Reserved w.place z 0 marks.NotComma) ≡ signs.Mode in subst S (sym ((bytes_eq-Decides w.spelling (codes "set")).0 e)) refl
    go false e = ap (λ c. if c then signs.Other else signs.Mode) e

pub sign_of-named : (s : Sign) (w : Word) → is_named s ≡ true → sign_of (named s w) ≡ s
unfolding sign_of plain_sign symbol_sign formula_sign reserved_sign special_sign argument_sign comma_sign
sign_of-named signs.Identifier w h = refl
sign_of-named signs.Predicate w h = refl
sign_of-named signs.Attribute w h = refl
sign_of-named signs.Mode w h = sign_of-mode w
sign_of-named signs.Structure w h = refl
sign_of-named signs.Selector w h = refl
sign_of-named signs.LeftBracket w h = refl
sign_of-named signs.RightBracket w h = refl
sign_of-named _ w h = cc

pub sign_of-functor : (w : Word) (n : ℕ) → sign_of (functor w n) ≡ signs.Functor
unfolding sign_of plain_sign symbol_sign formula_sign reserved_sign special_sign argument_sign comma_sign
sign_of-functor w n = go (n == 0)
  where
    go : (b : Bool) → (if b then signs.Functor else signs.Functor) ≡ signs.Functor
    go true = refl
    go false = refl

pub sign_of-argument : (p : Place) (n : ℕ) → 1 ≤ n → n ≤ 10 → sign_of (argument p n) ≡ signs.Argument n
unfolding sign_of plain_sign symbol_sign formula_sign reserved_sign special_sign argument_sign comma_sign
sign_of-argument p zero l h = absurd (omega (arith, l))
sign_of-argument p (suc zero) l h = refl
sign_of-argument p (suc (suc zero)) l h = refl
sign_of-argument p (suc (suc (suc zero))) l h = refl
sign_of-argument p (suc (suc (suc (suc zero)))) l h = refl
sign_of-argument p (suc (suc (suc (suc (suc zero))))) l h = refl
sign_of-argument p (suc (suc (suc (suc (suc (suc zero)))))) l h = refl
sign_of-argument p (suc (suc (suc (suc (suc (suc (suc zero))))))) l h = refl
sign_of-argument p (suc (suc (suc (suc (suc (suc (suc (suc zero)))))))) l h = refl
sign_of-argument p (suc (suc (suc (suc (suc (suc (suc (suc (suc zero))))))))) l h = refl
sign_of-argument p (suc (suc (suc (suc (suc (suc (suc (suc (suc (suc zero)))))))))) l h = refl
sign_of-argument p (suc (suc (suc (suc (suc (suc (suc (suc (suc (suc (suc n))))))))))) l h = absurd (omega (arith, h))

-- Equal tokens of a class are of equal places and words.
pub same_fixed : (s : Sign) → is_fixed s ≡ true → (p q : Place) → fixed s p ≡ fixed s q → p ≡ q
same_fixed s h p q e = sym (place s p) ∙ (ap (λ t. t.token.place) e ∙ place s q)
  where
    place : (s : Sign) (p : Place) → (fixed s p).token.place ≡ p
    place signs.It p = refl
    place signs.The p = refl
    place signs.Of p = refl
    place signs.Over p = refl
    place signs.Non p = refl
    place signs.Be p = refl
    place signs.Being p = refl
    place signs.ListComma p = refl
    place signs.DividingComma p = refl
    place _ p = refl

word_of-mode : (w : Word) → word_of (mode w) ≡ w
word_of-mode w = go (bytes_eq w.spelling (codes "set"))
  where
    go : (b : Bool) → word_of (if b then marked kinds.Reserved w.place w.spelling 0 marks.NotComma else symbol symbols.Mode w) ≡ w
    go true = refl
    go false = refl

pub same_named : (s : Sign) → is_named s ≡ true → (v w : Word) → named s v ≡ named s w → v ≡ w
same_named s h v w e = sym (word s v) ∙ (ap word_of e ∙ word s w)
  where
    word : (s : Sign) (w : Word) → word_of (named s w) ≡ w
    word signs.Mode w = word_of-mode w
    word _ w = refl

-- Signs are equal where their kinds and arguments are.
sign_from : ℕ → ℕ → Sign
sign_from k n =
    (if k == 0 then signs.Identifier else
    (if k == 1 then signs.Functor else
    (if k == 2 then signs.Predicate else
    (if k == 3 then signs.Attribute else
    (if k == 4 then signs.Mode else
    (if k == 5 then signs.Structure else
    (if k == 6 then signs.Selector else
    (if k == 7 then signs.LeftBracket else
    (if k == 8 then signs.RightBracket else
    (if k == 9 then signs.It else
    (if k == 10 then signs.The else
    (if k == 11 then signs.Of else
    (if k == 12 then signs.Over else
    (if k == 13 then signs.Non else
    (if k == 14 then signs.Be else
    (if k == 15 then signs.Being else
    (if k == 16 then signs.Open else
    (if k == 17 then signs.Close else
    (if k == 18 then signs.OpenAggregate else
    (if k == 19 then signs.CloseAggregate else
    (if k == 20 then signs.OpenBrace else
    (if k == 21 then signs.CloseBrace else
    (if k == 22 then signs.OpenSquare else
    (if k == 23 then signs.CloseSquare else
    (if k == 24 then signs.ListComma else
    (if k == 25 then signs.DividingComma else
    (if k == 26 then signs.Other else
    (if k == 28 then signs.For else
    (if k == 29 then signs.Ex else
    (if k == 30 then signs.Holds else
    (if k == 31 then signs.St else
    (if k == 32 then signs.Not else
    (if k == 33 then signs.Contradiction else
    (if k == 34 then signs.Thesis else
    (if k == 35 then signs.Is else
    (if k == 36 then signs.Or else
    (if k == 37 then signs.Implies else
    (if k == 38 then signs.Iff else
    (if k == 39 then signs.And else
    signs.Argument n)))))))))))))))))))))))))))))))))))))))

sign_from-back : (s : Sign) → sign_from (kind_of s) (argument_of s) ≡ s
unfolding sign_from
sign_from-back signs.Identifier = refl
sign_from-back signs.Functor = refl
sign_from-back signs.Predicate = refl
sign_from-back signs.Attribute = refl
sign_from-back signs.Mode = refl
sign_from-back signs.Structure = refl
sign_from-back signs.Selector = refl
sign_from-back signs.LeftBracket = refl
sign_from-back signs.RightBracket = refl
sign_from-back signs.It = refl
sign_from-back signs.The = refl
sign_from-back signs.Of = refl
sign_from-back signs.Over = refl
sign_from-back signs.Non = refl
sign_from-back signs.Be = refl
sign_from-back signs.Being = refl
sign_from-back signs.For = refl
sign_from-back signs.Ex = refl
sign_from-back signs.Holds = refl
sign_from-back signs.St = refl
sign_from-back signs.Not = refl
sign_from-back signs.Contradiction = refl
sign_from-back signs.Thesis = refl
sign_from-back signs.Is = refl
sign_from-back signs.Or = refl
sign_from-back signs.Implies = refl
sign_from-back signs.Iff = refl
sign_from-back signs.And = refl
sign_from-back signs.Open = refl
sign_from-back signs.Close = refl
sign_from-back signs.OpenAggregate = refl
sign_from-back signs.CloseAggregate = refl
sign_from-back signs.OpenBrace = refl
sign_from-back signs.CloseBrace = refl
sign_from-back signs.OpenSquare = refl
sign_from-back signs.CloseSquare = refl
sign_from-back signs.ListComma = refl
sign_from-back signs.DividingComma = refl
sign_from-back signs.Other = refl
sign_from-back (signs.Argument n) = refl

pub same_sign : (a b : Sign) → kind_of a ≡ kind_of b → argument_of a ≡ argument_of b → a ≡ b
same_sign a b e f = sym (sign_from-back a) ∙ (ap (λ k. sign_from k (argument_of a)) e ∙ (ap (λ n. sign_from (kind_of b) n) f ∙ sign_from-back b))
