-- How reserved words and `->` are taken.
use Rattle.std.specs.Prelude.{◌==◌, codes, if◌then◌else◌}
use Rattle.std.specs.Str.{bytes_eq}
use Rattle.std.proofs.Common.{◌≡◌, ℕ, Bool, true, false, List, [], ◌∷◌, refl, sym, ap, subst, ◌∙◌, eqb-true, Some, None}
use Rattle.std.proofs.lemmas.Slice.Eq.{bytes_eq-Decides}
use Rattle.mz_base.specs.declared.place.Place.{Place}
use Rattle.mz_base.specs.declared.token.TokenKind.{TokenKind}
use Rattle.mz_base.specs.declared.token.TokenKind.TheVariants as kinds
use Rattle.mz_base.specs.declared.token.Mark.{Mark}
use Rattle.mz_base.specs.declared.token.Mark.TheVariants as marks
use Rattle.mz_base.specs.declared.token.MarkedToken.{MarkedToken}
use Rattle.mz_forms.specs.Form.{Agrees, Found, Fails, one_of}
use Rattle.mz_forms.proofs.Choose.{fails_here}
use Rattle.mz_forms.proofs.Words.{word_found}
use Rattle.mz_tree.specs.Spelled.{marked, reserved, special}
use Rattle.mz_pterm.specs.declared.sign.Sign.{Sign}
use Rattle.mz_pterm.specs.declared.sign.Sign.TheVariants as signs
use Rattle.mz_pterm.specs.Sign.{sign_of, plain_sign, reserved_sign, special_sign, argument_sign}
use Rattle.mz_pterm.proofs.Steps.{told_rest}
use Rattle.mz_ptype.proofs.Optional.{true_not_false}
use Rattle.mz_pjustification.specs.declared.keyword.Keyword.{Keyword}
use Rattle.mz_pjustification.specs.declared.keyword.Keyword.TheVariants as keywords
use Rattle.mz_pjustification.specs.Keyword.{keyword_of, plain_keyword, reserved_keyword, special_keyword}
use Rattle.mz_pjustification.specs.Words.{tokens_of}
use Rattle.mz_pjustification.proofs.Taken.{nowhere, nothing_left}
use Rattle.mz_ppattern.specs.Words.{spells_word, is_special, marked_word, marked_arrow, is_word, is_arrow, word_token, arrow_token, TakesOne}

-- What a word, and the arrow, say of the token.
marked-kind_told : (k : TokenKind) (p : Place) (s w : List ℕ) → spells_word w k s ≡ true → marked k p s 0 marks.NotComma ≡ word_token w p
marked-kind_told kinds.Reserved p s w h = ap (λ z. reserved p z) ((bytes_eq-Decides s w).0 h)
marked-kind_told kinds.Special p s w h = cc
marked-kind_told (kinds.Symbol k) p s w h = cc
marked-kind_told kinds.Identifier p s w h = cc
marked-kind_told kinds.Numeral p s w h = cc

mark_told : (m : Mark) (k : TokenKind) (p : Place) (s w : List ℕ) → marked_word w m k s ≡ true → marked k p s 0 m ≡ word_token w p
mark_told marks.NotComma k p s w h = marked-kind_told k p s w h
mark_told marks.List k p s w h = cc
mark_told marks.Dividing k p s w h = cc

marked-rank_told : (n : ℕ) (m : Mark) (k : TokenKind) (p : Place) (s w : List ℕ) → (if n == 0 then marked_word w m k s else false) ≡ true → marked k p s n m ≡ word_token w p
marked-rank_told n m k p s w h = go (n == 0) refl h
  where
    go : (b : Bool) → (n == 0) ≡ b → (if b then marked_word w m k s else false) ≡ true → marked k p s n m ≡ word_token w p
    go true e g = let U : ℕ → Type 0 = λ z. marked k p s z m ≡ word_token w p in subst U (sym (eqb-true n 0 e)) (mark_told m k p s w g)
    go false e g = cc

pub word_told : (w : List ℕ) (t : MarkedToken) → is_word w t ≡ true → t ≡ word_token w t.token.place
word_told w t h = marked-rank_told t.token.priority t.mark t.token.kind t.token.place t.token.spelling w h

pub word_own : (w : List ℕ) (p : Place) → is_word w (word_token w p) ≡ true
word_own w p = (bytes_eq-Decides w w).1 refl

marked-special_told : (k : TokenKind) (p : Place) (s : List ℕ) → is_special k s ≡ true → marked k p s 0 marks.NotComma ≡ arrow_token p
marked-special_told kinds.Reserved p s h = cc
marked-special_told kinds.Special p s h = ap (λ z. special p z) ((bytes_eq-Decides s (codes "->")).0 h)
marked-special_told (kinds.Symbol k) p s h = cc
marked-special_told kinds.Identifier p s h = cc
marked-special_told kinds.Numeral p s h = cc

mark_arrow : (m : Mark) (k : TokenKind) (p : Place) (s : List ℕ) → marked_arrow m k s ≡ true → marked k p s 0 m ≡ arrow_token p
mark_arrow marks.NotComma k p s h = marked-special_told k p s h
mark_arrow marks.List k p s h = cc
mark_arrow marks.Dividing k p s h = cc

marked-rank_arrow : (n : ℕ) (m : Mark) (k : TokenKind) (p : Place) (s : List ℕ) → (if n == 0 then marked_arrow m k s else false) ≡ true → marked k p s n m ≡ arrow_token p
marked-rank_arrow n m k p s h = go (n == 0) refl h
  where
    go : (b : Bool) → (n == 0) ≡ b → (if b then marked_arrow m k s else false) ≡ true → marked k p s n m ≡ arrow_token p
    go true e g = let U : ℕ → Type 0 = λ z. marked k p s z m ≡ arrow_token p in subst U (sym (eqb-true n 0 e)) (mark_arrow m k p s g)
    go false e g = cc

pub arrow_told : (t : MarkedToken) → is_arrow t ≡ true → t ≡ arrow_token t.token.place
arrow_told t h = marked-rank_arrow t.token.priority t.mark t.token.kind t.token.place t.token.spelling h

pub arrow_own : (p : Place) → is_arrow (arrow_token p) ≡ true
arrow_own p = (bytes_eq-Decides (codes "->") (codes "->")).1 refl

-- Words that are no words of expressions or of proofs.
pub word_signed : (w : List ℕ) (p : Place) → reserved_sign w ≡ signs.Other → sign_of (word_token w p) ≡ signs.Other
unfolding sign_of plain_sign
word_signed w p h = h

pub word_keyed : (w : List ℕ) (p : Place) → reserved_keyword w ≡ keywords.Other → keyword_of (word_token w p) ≡ keywords.Other
unfolding keyword_of plain_keyword
word_keyed w p h = h

abbrev pub IsPlain : List ℕ → Type 0
IsPlain w = (reserved_sign w ≡ signs.Other) × (reserved_keyword w ≡ keywords.Other)

pub word_among : (c : Sign → Keyword → Bool) (w : List ℕ) (p : Place) → IsPlain w → tokens_of c (word_token w p) ≡ c signs.Other keywords.Other
word_among c w p h = ap (λ s. c s (keyword_of (word_token w p))) (word_signed w p h.0) ∙ ap (c signs.Other) (word_keyed w p h.1)

pub arrow_signed : (p : Place) → sign_of (arrow_token p) ≡ signs.Other
unfolding sign_of plain_sign special_sign argument_sign
arrow_signed p = refl

pub arrow_keyed : (p : Place) → keyword_of (arrow_token p) ≡ keywords.Other
unfolding keyword_of plain_keyword special_keyword
arrow_keyed p = refl

pub arrow_among : (c : Sign → Keyword → Bool) (p : Place) → tokens_of c (arrow_token p) ≡ c signs.Other keywords.Other
arrow_among c p = ap (λ s. c s (keyword_of (arrow_token p))) (arrow_signed p) ∙ ap (c signs.Other) (arrow_keyed p)

-- A class of tokens with a place alone.
module _ (f : Place → MarkedToken) (is : MarkedToken → Bool) (own : (p : Place) → is (f p) ≡ true) (told : (t : MarkedToken) → is t ≡ true → t ≡ f t.token.place) (same : (p q : Place) → f p ≡ f q → p ≡ q) where
  pub one_taken : (t : MarkedToken) (b rest : List MarkedToken) → is t ≡ true → b ≡ t ∷ rest → TakesOne f b (Some t.token.place) rest
  one_taken t b rest h e = told_rest b rest t _ e (told t h)

  differs : (t : MarkedToken) (b rest : List MarkedToken) → is t ≡ false → b ≡ t ∷ rest → (p : Place) → Agrees b (f p ∷ []) → ⊥
  differs t b rest h e p agrees =
      let A : List MarkedToken → Type 0 = λ z. Agrees z (f p ∷ []) in
      let g : f p ≡ t = subst A e agrees in
      true_not_false (is t) h (sym (ap is g) ∙ own p)

  pub one_not_taken : (t : MarkedToken) (b rest : List MarkedToken) → is t ≡ false → b ≡ t ∷ rest → TakesOne f b None b
  one_not_taken t b rest h e = (refl, differs t b rest h e)

  pub one_at_end : (b : List MarkedToken) → b ≡ [] → TakesOne f b None b
  one_at_end b e = (refl, λ p agrees. nothing_left (f p) b e agrees)

  pub one_found : (room : ℕ) (p : Place) (b rest : List MarkedToken) → TakesOne f b (Some p) rest → Found (one_of Place f) room b p rest
  one_found room p b rest e = word_found Place f same room p b rest e

  pub one_missing : (room : ℕ) (b after : List MarkedToken) → TakesOne f b None after → Fails (one_of Place f) room b after
  one_missing room b after h = let F : List MarkedToken → Type 0 = λ z. Fails (one_of Place f) room b z in subst F h.0 (fails_here (one_of Place f) room nowhere b tt (λ x i agrees. h.1 x agrees))

pub word_same : (w : List ℕ) (p q : Place) → word_token w p ≡ word_token w q → p ≡ q
word_same w p q e = ap (λ t. t.token.place) e

pub arrow_same : (p q : Place) → arrow_token p ≡ arrow_token q → p ≡ q
arrow_same p q e = ap (λ t. t.token.place) e
