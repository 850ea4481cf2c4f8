-- Tokens are told by their keywords.
use Rattle.std.specs.Prelude.{◌==◌, codes, if◌then◌else◌}
use Rattle.std.specs.Str.{bytes_eq}
use Rattle.std.proofs.Common.{◌≡◌, ℕ, Bool, true, false, List, refl, sym, ap, subst, ◌∙◌, eqb-true}
use Rattle.std.proofs.lemmas.Slice.Eq.{bytes_eq-Decides}
use Rattle.mz_base.specs.declared.place.Place.{Place}
use Rattle.mz_base.specs.declared.token.TokenKind.{TokenKind}
use Rattle.mz_base.specs.declared.token.TokenKind.TheVariants as kinds
use Rattle.mz_base.specs.declared.token.Mark.{Mark}
use Rattle.mz_base.specs.declared.token.Mark.TheVariants as marks
use Rattle.mz_base.specs.declared.token.MarkedToken.{MarkedToken}
use Rattle.mz_tree.specs.declared.word.Word.{Word}
use Rattle.mz_tree.specs.declared.word.Comma.{Comma}
use Rattle.mz_tree.specs.Spelled.{marked, reserved, special, numeral, comma_token, mark_of}
use Rattle.mz_pterm.specs.declared.sign.Sign.{Sign}
use Rattle.mz_pterm.specs.declared.sign.Sign.TheVariants as signs
use Rattle.mz_pterm.specs.Sign.{sign_of, plain_sign, symbol_sign, formula_sign, reserved_sign, special_sign, argument_sign, comma_sign}
use Rattle.mz_pterm.specs.Words.{is_fixed, fixed, named, word_of}
use Rattle.mz_pjustification.specs.declared.keyword.Keyword.{Keyword}
use Rattle.mz_pjustification.specs.declared.keyword.Keyword.TheVariants as keywords
use Rattle.mz_pjustification.specs.Keyword.{later_keyword, reserved_keyword, special_keyword, plain_keyword, unranked_keyword, keyword_of, number_of}
use Rattle.mz_pjustification.specs.Words.{is_key, key}

-- a choice by a spelling
choose : (T : Keyword → Type 0) (s w : List ℕ) (r q : Keyword) → (s ≡ w → T r) → T q → T (if bytes_eq s w then r else q)
choose T s w r q when_same other = go (bytes_eq s w) refl
  where
    go : (b : Bool) → bytes_eq s w ≡ b → T (if b then r else q)
    go true e = when_same ((bytes_eq-Decides s w).0 e)
    go false e = other

-- what the keyword says of the token
abbrev pub Told : MarkedToken → Keyword → Type 0
Told t keywords.Numeral = t ≡ numeral (word_of t)
Told t keywords.Other = Unit {0}
Told t k = t ≡ key k t.token.place

-- a token that is no comma and has no priority
abbrev plain : TokenKind → Place → List ℕ → MarkedToken
plain k p s = marked k p s 0 marks.NotComma

told_later : (p : Place) (s : List ℕ) → Told (plain kinds.Reserved p s) (later_keyword s)
unfolding later_keyword
told_later p s =
    let T : Keyword → Type 0 = λ r. Told (plain kinds.Reserved p s) r in
    let w : (v : List ℕ) → s ≡ v → plain kinds.Reserved p s ≡ reserved p v = λ v e. ap (λ z. reserved p z) e in
    choose T s (codes "let") keywords.Let _ (w (codes "let"))
    (choose T s (codes "means") keywords.Means _ (w (codes "means"))
    (choose T s (codes "now") keywords.Now _ (w (codes "now"))
    (choose T s (codes "per") keywords.Per _ (w (codes "per"))
    (choose T s (codes "proof") keywords.Proof _ (w (codes "proof"))
    (choose T s (codes "reconsider") keywords.Reconsider _ (w (codes "reconsider"))
    (choose T s (codes "sch") keywords.Sch _ (w (codes "sch"))
    (choose T s (codes "such") keywords.Such _ (w (codes "such"))
    (choose T s (codes "suppose") keywords.Suppose _ (w (codes "suppose"))
    (choose T s (codes "take") keywords.Take _ (w (codes "take"))
    (choose T s (codes "that") keywords.That _ (w (codes "that"))
    (choose T s (codes "then") keywords.Then _ (w (codes "then"))
    (choose T s (codes "thus") keywords.Thus keywords.Other (w (codes "thus")) tt))))))))))))

told_reserved : (p : Place) (s : List ℕ) → Told (plain kinds.Reserved p s) (reserved_keyword s)
unfolding reserved_keyword
told_reserved p s =
    let T : Keyword → Type 0 = λ r. Told (plain kinds.Reserved p s) r in
    let w : (v : List ℕ) → s ≡ v → plain kinds.Reserved p s ≡ reserved p v = λ v e. ap (λ z. reserved p z) e in
    choose T s (codes "and") keywords.And _ (w (codes "and"))
    (choose T s (codes "as") keywords.As _ (w (codes "as"))
    (choose T s (codes "assume") keywords.Assume _ (w (codes "assume"))
    (choose T s (codes "by") keywords.By _ (w (codes "by"))
    (choose T s (codes "cases") keywords.Cases _ (w (codes "cases"))
    (choose T s (codes "consider") keywords.Consider _ (w (codes "consider"))
    (choose T s (codes "def") keywords.Def _ (w (codes "def"))
    (choose T s (codes "deffunc") keywords.Deffunc _ (w (codes "deffunc"))
    (choose T s (codes "defpred") keywords.Defpred _ (w (codes "defpred"))
    (choose T s (codes "end") keywords.End _ (w (codes "end"))
    (choose T s (codes "from") keywords.From _ (w (codes "from"))
    (choose T s (codes "given") keywords.Given _ (w (codes "given"))
    (choose T s (codes "hence") keywords.Hence _ (w (codes "hence"))
    (choose T s (codes "hereby") keywords.Hereby _ (w (codes "hereby")) (told_later p s))))))))))))))

told_special : (p : Place) (s : List ℕ) → Told (plain kinds.Special p s) (special_keyword s)
unfolding special_keyword
told_special p s =
    let T : Keyword → Type 0 = λ r. Told (plain kinds.Special p s) r in
    let w : (v : List ℕ) → s ≡ v → plain kinds.Special p s ≡ special p v = λ v e. ap (λ z. special p z) e in
    choose T s (codes ":") keywords.Colon _ (w (codes ":"))
    (choose T s (codes ";") keywords.Semicolon _ (w (codes ";"))
    (choose T s (codes ".=") keywords.Link keywords.Other (w (codes ".=")) tt))

told_plain : (k : TokenKind) (p : Place) (s : List ℕ) → Told (plain k p s) (plain_keyword k s)
unfolding plain_keyword
told_plain kinds.Reserved p s = told_reserved p s
told_plain kinds.Special p s = told_special p s
told_plain kinds.Numeral p s = refl
told_plain kinds.Identifier p s = tt
told_plain (kinds.Symbol k) p s = tt

told_unranked : (m : Mark) (k : TokenKind) (p : Place) (s : List ℕ) → Told (marked k p s 0 m) (unranked_keyword m k s)
told_unranked marks.NotComma k p s = told_plain k p s
told_unranked marks.List k p s = tt
told_unranked marks.Dividing k p s = tt

told_with : (m : Mark) (k : TokenKind) (p : Place) (s : List ℕ) (n : ℕ) → Told (marked k p s n m) (if n == 0 then unranked_keyword m k s else keywords.Other)
told_with m k p s n = go (n == 0) refl
  where
    go : (b : Bool) → (n == 0) ≡ b → Told (marked k p s n m) (if b then unranked_keyword m k s else keywords.Other)
    go true e = let U : ℕ → Type 0 = λ z. Told (marked k p s z m) (unranked_keyword m k s) in subst U (sym (eqb-true n 0 e)) (told_unranked m k p s)
    go false e = tt

told : (t : MarkedToken) → Told t (keyword_of t)
unfolding keyword_of
told t = told_with t.mark t.token.kind t.token.place t.token.spelling t.token.priority

told_at : (t : MarkedToken) (k : Keyword) → keyword_of t ≡ k → Told t k
told_at t k e = let T : Keyword → Type 0 = λ z. Told t z in subst T e (told t)

pub told_key : (k : Keyword) (t : MarkedToken) → is_key k ≡ true → keyword_of t ≡ k → t ≡ key k t.token.place
told_key k t h e = go k h (told_at t k e)
  where
    go : (k : Keyword) → is_key k ≡ true → Told t k → t ≡ key k t.token.place
    go keywords.Numeral h g = cc
    go keywords.Other h g = cc
    go _ h g = g

pub told_numeral : (t : MarkedToken) → keyword_of t ≡ keywords.Numeral → t ≡ numeral (word_of t)
told_numeral t e = told_at t keywords.Numeral e

-- The keywords and the signs of tokens.
pub keyword_of-key : (k : Keyword) (p : Place) → is_key k ≡ true → keyword_of (key k p) ≡ k
unfolding keyword_of plain_keyword reserved_keyword later_keyword special_keyword
keyword_of-key keywords.And p h = refl
keyword_of-key keywords.As p h = refl
keyword_of-key keywords.Assume p h = refl
keyword_of-key keywords.By p h = refl
keyword_of-key keywords.Cases p h = refl
keyword_of-key keywords.Consider p h = refl
keyword_of-key keywords.Def p h = refl
keyword_of-key keywords.Deffunc p h = refl
keyword_of-key keywords.Defpred p h = refl
keyword_of-key keywords.End p h = refl
keyword_of-key keywords.From p h = refl
keyword_of-key keywords.Given p h = refl
keyword_of-key keywords.Hence p h = refl
keyword_of-key keywords.Hereby p h = refl
keyword_of-key keywords.Let p h = refl
keyword_of-key keywords.Means p h = refl
keyword_of-key keywords.Now p h = refl
keyword_of-key keywords.Per p h = refl
keyword_of-key keywords.Proof p h = refl
keyword_of-key keywords.Reconsider p h = refl
keyword_of-key keywords.Sch p h = refl
keyword_of-key keywords.Such p h = refl
keyword_of-key keywords.Suppose p h = refl
keyword_of-key keywords.Take p h = refl
keyword_of-key keywords.That p h = refl
keyword_of-key keywords.Then p h = refl
keyword_of-key keywords.Thus p h = refl
keyword_of-key keywords.Colon p h = refl
keyword_of-key keywords.Semicolon p h = refl
keyword_of-key keywords.Link p h = refl
keyword_of-key _ p h = cc

pub sign_of-key : (k : Keyword) (p : Place) → is_key k ≡ true → sign_of (key k p) ≡ signs.Other
unfolding sign_of plain_sign symbol_sign formula_sign reserved_sign special_sign argument_sign comma_sign
sign_of-key keywords.And p h = refl
sign_of-key keywords.As p h = refl
sign_of-key keywords.Assume p h = refl
sign_of-key keywords.By p h = refl
sign_of-key keywords.Cases p h = refl
sign_of-key keywords.Consider p h = refl
sign_of-key keywords.Def p h = refl
sign_of-key keywords.Deffunc p h = refl
sign_of-key keywords.Defpred p h = refl
sign_of-key keywords.End p h = refl
sign_of-key keywords.From p h = refl
sign_of-key keywords.Given p h = refl
sign_of-key keywords.Hence p h = refl
sign_of-key keywords.Hereby p h = refl
sign_of-key keywords.Let p h = refl
sign_of-key keywords.Means p h = refl
sign_of-key keywords.Now p h = refl
sign_of-key keywords.Per p h = refl
sign_of-key keywords.Proof p h = refl
sign_of-key keywords.Reconsider p h = refl
sign_of-key keywords.Sch p h = refl
sign_of-key keywords.Such p h = refl
sign_of-key keywords.Suppose p h = refl
sign_of-key keywords.Take p h = refl
sign_of-key keywords.That p h = refl
sign_of-key keywords.Then p h = refl
sign_of-key keywords.Thus p h = refl
sign_of-key keywords.Colon p h = refl
sign_of-key keywords.Semicolon p h = refl
sign_of-key keywords.Link p h = refl
sign_of-key _ p h = cc

pub keyword_of-numeral : (w : Word) → keyword_of (numeral w) ≡ keywords.Numeral
unfolding keyword_of plain_keyword
keyword_of-numeral w = refl

pub sign_of-numeral : (w : Word) → sign_of (numeral w) ≡ signs.Other
unfolding sign_of plain_sign
sign_of-numeral w = refl

pub keyword_of-identifier : (w : Word) → keyword_of (named signs.Identifier w) ≡ keywords.Other
unfolding keyword_of plain_keyword
keyword_of-identifier w = refl

pub keyword_of-comma : (c : Comma) → keyword_of (comma_token c) ≡ keywords.Other
unfolding keyword_of
keyword_of-comma c = go c.dividing
  where
    go : (d : Bool) → unranked_keyword (mark_of d) kinds.Special (codes ",") ≡ keywords.Other
    go true = refl
    go false = refl

pub keyword_of-fixed : (s : Sign) (p : Place) → is_fixed s ≡ true → keyword_of (fixed s p) ≡ keywords.Other
unfolding keyword_of plain_keyword reserved_keyword later_keyword special_keyword
keyword_of-fixed signs.It p h = refl
keyword_of-fixed signs.The p h = refl
keyword_of-fixed signs.Of p h = refl
keyword_of-fixed signs.Over p h = refl
keyword_of-fixed signs.Non p h = refl
keyword_of-fixed signs.Be p h = refl
keyword_of-fixed signs.Being p h = refl
keyword_of-fixed signs.For p h = refl
keyword_of-fixed signs.Ex p h = refl
keyword_of-fixed signs.Holds p h = refl
keyword_of-fixed signs.St p h = refl
keyword_of-fixed signs.Not p h = refl
keyword_of-fixed signs.Contradiction p h = refl
keyword_of-fixed signs.Thesis p h = refl
keyword_of-fixed signs.Is p h = refl
keyword_of-fixed signs.Or p h = refl
keyword_of-fixed signs.Implies p h = refl
keyword_of-fixed signs.Iff p h = refl
keyword_of-fixed signs.And p h = refl
keyword_of-fixed signs.Open p h = refl
keyword_of-fixed signs.Close p h = refl
keyword_of-fixed signs.OpenAggregate p h = refl
keyword_of-fixed signs.CloseAggregate p h = refl
keyword_of-fixed signs.OpenBrace p h = refl
keyword_of-fixed signs.CloseBrace p h = refl
keyword_of-fixed signs.OpenSquare p h = refl
keyword_of-fixed signs.CloseSquare p h = refl
keyword_of-fixed signs.ListComma p h = refl
keyword_of-fixed signs.DividingComma p h = refl
keyword_of-fixed _ p h = cc

-- Equal tokens of a keyword are of equal places and words.
pub same_key : (k : Keyword) → is_key k ≡ true → (p q : Place) → key k p ≡ key k q → p ≡ q
same_key k h p q e = sym (place k p) ∙ (ap (λ t. t.token.place) e ∙ place k q)
  where
    place : (k : Keyword) (p : Place) → (key k p).token.place ≡ p
    place keywords.And p = refl
    place keywords.As p = refl
    place keywords.Assume p = refl
    place keywords.By p = refl
    place keywords.Cases p = refl
    place keywords.Consider p = refl
    place keywords.Def p = refl
    place keywords.Deffunc p = refl
    place keywords.Defpred p = refl
    place keywords.End p = refl
    place keywords.From p = refl
    place keywords.Given p = refl
    place keywords.Hence p = refl
    place keywords.Hereby p = refl
    place keywords.Let p = refl
    place keywords.Means p = refl
    place keywords.Now p = refl
    place keywords.Per p = refl
    place keywords.Proof p = refl
    place keywords.Reconsider p = refl
    place keywords.Sch p = refl
    place keywords.Such p = refl
    place keywords.Suppose p = refl
    place keywords.Take p = refl
    place keywords.That p = refl
    place keywords.Then p = refl
    place keywords.Thus p = refl
    place keywords.Colon p = refl
    place keywords.Semicolon p = refl
    place keywords.Link p = refl
    place _ p = refl

pub same_numeral : (v w : Word) → numeral v ≡ numeral w → v ≡ w
same_numeral v w e = ap word_of e

-- Keywords are equal where their numbers are.
keyword_from : ℕ → Keyword
keyword_from n =
    (if n == 0 then keywords.And else
    (if n == 1 then keywords.As else
    (if n == 2 then keywords.Assume else
    (if n == 3 then keywords.By else
    (if n == 4 then keywords.Cases else
    (if n == 5 then keywords.Consider else
    (if n == 6 then keywords.Def else
    (if n == 7 then keywords.Deffunc else
    (if n == 8 then keywords.Defpred else
    (if n == 9 then keywords.End else
    (if n == 10 then keywords.From else
    (if n == 11 then keywords.Given else
    (if n == 12 then keywords.Hence else
    (if n == 13 then keywords.Hereby else
    (if n == 14 then keywords.Let else
    (if n == 15 then keywords.Means else
    (if n == 16 then keywords.Now else
    (if n == 17 then keywords.Per else
    (if n == 18 then keywords.Proof else
    (if n == 19 then keywords.Reconsider else
    (if n == 20 then keywords.Sch else
    (if n == 21 then keywords.Such else
    (if n == 22 then keywords.Suppose else
    (if n == 23 then keywords.Take else
    (if n == 24 then keywords.That else
    (if n == 25 then keywords.Then else
    (if n == 26 then keywords.Thus else
    (if n == 27 then keywords.Colon else
    (if n == 28 then keywords.Semicolon else
    (if n == 29 then keywords.Link else
    (if n == 30 then keywords.Numeral else keywords.Other)))))))))))))))))))))))))))))))

keyword_from-back : (k : Keyword) → keyword_from (number_of k) ≡ k
unfolding keyword_from
keyword_from-back keywords.And = refl
keyword_from-back keywords.As = refl
keyword_from-back keywords.Assume = refl
keyword_from-back keywords.By = refl
keyword_from-back keywords.Cases = refl
keyword_from-back keywords.Consider = refl
keyword_from-back keywords.Def = refl
keyword_from-back keywords.Deffunc = refl
keyword_from-back keywords.Defpred = refl
keyword_from-back keywords.End = refl
keyword_from-back keywords.From = refl
keyword_from-back keywords.Given = refl
keyword_from-back keywords.Hence = refl
keyword_from-back keywords.Hereby = refl
keyword_from-back keywords.Let = refl
keyword_from-back keywords.Means = refl
keyword_from-back keywords.Now = refl
keyword_from-back keywords.Per = refl
keyword_from-back keywords.Proof = refl
keyword_from-back keywords.Reconsider = refl
keyword_from-back keywords.Sch = refl
keyword_from-back keywords.Such = refl
keyword_from-back keywords.Suppose = refl
keyword_from-back keywords.Take = refl
keyword_from-back keywords.That = refl
keyword_from-back keywords.Then = refl
keyword_from-back keywords.Thus = refl
keyword_from-back keywords.Colon = refl
keyword_from-back keywords.Semicolon = refl
keyword_from-back keywords.Link = refl
keyword_from-back keywords.Numeral = refl
keyword_from-back keywords.Other = refl

pub same_keyword : (a b : Keyword) → number_of a ≡ number_of b → a ≡ b
same_keyword a b e = sym (keyword_from-back a) ∙ (ap keyword_from e ∙ keyword_from-back b)
