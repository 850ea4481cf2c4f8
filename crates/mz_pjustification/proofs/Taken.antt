-- How tokens of proofs are taken.
use Rattle.std.proofs.Common.{◌≡◌, ℕ, ◌-◌, ◌<◌, Bool, true, false, ◌||◌, ◌&&◌, List, [], ◌∷◌, refl, sym, ap, subst, ◌∙◌, arith, None}
use Rattle.mz_base.specs.declared.place.Place.{Place}
use Rattle.mz_base.specs.declared.token.MarkedToken.{MarkedToken}
use Rattle.mz_forms.specs.Form.{Agrees, Found, Fails, Deeper, nested}
use Rattle.mz_forms.proofs.Choose.{fails_here}
use Rattle.mz_forms.proofs.Compose.{head_of}
use Rattle.mz_forms.proofs.Descend.{begins_too_deep}
use Rattle.mz_forms.proofs.Nested.{found_under}
use Rattle.mz_forms.proofs.Words.{word_found}
use Rattle.mz_tree.specs.declared.word.Word.{Word}
use Rattle.mz_tree.specs.declared.word.Comma.{Comma}
use Rattle.mz_tree.specs.Spelled.{numeral, comma_token}
use Rattle.mz_pterm.specs.declared.sign.Sign.{Sign}
use Rattle.mz_pterm.specs.declared.sign.Sign.TheVariants as signs
use Rattle.mz_pterm.specs.Words.{is_fixed, fixed, named, word_of}
use Rattle.mz_pterm.proofs.Signs.{sign_of-fixed, sign_of-named}
use Rattle.mz_pterm.proofs.Bases.{word_at}
use Rattle.mz_pterm.proofs.Steps.{told_rest}
use Rattle.mz_ptype.proofs.DeclarationSteps.{comma_kind, comma_signed}
use Rattle.mz_pjustification.specs.declared.keyword.Keyword.{Keyword}
use Rattle.mz_pjustification.specs.declared.keyword.Keyword.TheVariants as keywords
use Rattle.mz_pjustification.specs.Keyword.{keyword_of}
use Rattle.mz_pjustification.specs.Words.{is_key, key, keyword, numeral_form, TakesKey, tokens_of}
use Rattle.mz_pjustification.proofs.Keywords.{told_key, told_numeral, keyword_of-key, keyword_of-numeral, keyword_of-identifier, keyword_of-comma, keyword_of-fixed, sign_of-key, sign_of-numeral, same_key, same_numeral}

abbrev pub nowhere : Place
nowhere = record { line = 0; column = 0 }

-- What a token is by its sign and its keyword.
pub key_among : (c : Sign → Keyword → Bool) (k : Keyword) (p : Place) → is_key k ≡ true → tokens_of c (key k p) ≡ c signs.Other k
key_among c k p h = ap (λ s. c s (keyword_of (key k p))) (sign_of-key k p h) ∙ ap (c signs.Other) (keyword_of-key k p h)

pub numeral_among : (c : Sign → Keyword → Bool) (w : Word) → tokens_of c (numeral w) ≡ c signs.Other keywords.Numeral
numeral_among c w = ap (λ s. c s (keyword_of (numeral w))) (sign_of-numeral w) ∙ ap (c signs.Other) (keyword_of-numeral w)

pub tokens_of-identifier_among : (c : Sign → Keyword → Bool) (w : Word) → tokens_of c (named signs.Identifier w) ≡ c signs.Identifier keywords.Other
tokens_of-identifier_among c w = ap (λ s. c s (keyword_of (named signs.Identifier w))) (sign_of-named signs.Identifier w refl) ∙ ap (c signs.Identifier) (keyword_of-identifier w)

pub fixed_among : (c : Sign → Keyword → Bool) (s : Sign) (p : Place) → is_fixed s ≡ true → tokens_of c (fixed s p) ≡ c s keywords.Other
fixed_among c s p h = ap (λ z. c z (keyword_of (fixed s p))) (sign_of-fixed s p h) ∙ ap (c s) (keyword_of-fixed s p h)

pub comma_among : (c : Sign → Keyword → Bool) (a : Comma) → tokens_of c (comma_token a) ≡ c (comma_kind a.dividing) keywords.Other
comma_among c a = ap (λ z. c z (keyword_of (comma_token a))) (comma_signed a) ∙ ap (c (comma_kind a.dividing)) (keyword_of-comma a)

-- what goes on one form behind another, where either goes on the whole
pub or_goes : (p q r x : Bool) → (p ≡ true → x ≡ true) → (q ≡ true → x ≡ true) → (p || (r && q)) ≡ true → x ≡ true
or_goes true q r x h k g = h refl
or_goes false true true x h k g = k refl
or_goes false true false x h k g = cc
or_goes false false true x h k g = cc
or_goes false false false x h k g = cc

-- the first token is of the set
pub among_at : (c : Sign → Keyword → Bool) (s t : MarkedToken) (v w : List MarkedToken) → s ∷ v ≡ t ∷ w → tokens_of c s ≡ true → tokens_of c t ≡ true
among_at c s t v w e h = let C : MarkedToken → Type 0 = λ z. tokens_of c z ≡ true in subst C (head_of _ _ _ _ e) h

pub first_only : (b : List MarkedToken) (t : MarkedToken) (w : List MarkedToken) → Agrees b (t ∷ w) → Agrees b (t ∷ [])
first_only [] t w g = g
first_only (s ∷ b) t w g = g

pub nothing_left : (s : MarkedToken) (b : List MarkedToken) → b ≡ [] → Agrees b (s ∷ []) → ⊥
nothing_left s b e agrees = let A : List MarkedToken → Type 0 = λ z. Agrees z (s ∷ []) in subst A e agrees

-- Words.
pub key_found : (k : Keyword) (room : ℕ) (p : Place) (b rest : List MarkedToken) → is_key k ≡ true → b ≡ key k p ∷ rest → Found (keyword k) room b p rest
key_found k room p b rest h e = word_found Place (key k) (same_key k h) room p b rest e

pub key_missing : (k : Keyword) (room : ℕ) (b after : List MarkedToken) → TakesKey k b None after → Fails (keyword k) room b after
key_missing k room b after h = let F : List MarkedToken → Type 0 = λ z. Fails (keyword k) room b z in subst F h.0 (fails_here (keyword k) room nowhere b tt (λ x is agrees. h.1 x agrees))

differs_key : (k : Keyword) (t : MarkedToken) (b rest : List MarkedToken) → is_key k ≡ true → (keyword_of t ≡ k → ⊥) → b ≡ t ∷ rest → (p : Place) → Agrees b (key k p ∷ []) → ⊥
differs_key k t b rest h differ e p agrees = let A : List MarkedToken → Type 0 = λ z. Agrees z (key k p ∷ []) in let g : key k p ≡ t = subst A e agrees in differ (sym (ap keyword_of g) ∙ keyword_of-key k p h)

pub key_not_taken : (k : Keyword) (t : MarkedToken) (b rest : List MarkedToken) → is_key k ≡ true → (keyword_of t ≡ k → ⊥) → b ≡ t ∷ rest → TakesKey k b None b
key_not_taken k t b rest h differ e = (refl, differs_key k t b rest h differ e)

pub key_at_end : (k : Keyword) (b : List MarkedToken) → b ≡ [] → TakesKey k b None b
key_at_end k b e = (refl, λ p agrees. nothing_left (key k p) b e agrees)

pub key_refused : (k : Keyword) (room : ℕ) (t : MarkedToken) (b rest : List MarkedToken) → is_key k ≡ true → (keyword_of t ≡ k → ⊥) → b ≡ t ∷ rest → Fails (nested (keyword k)) room b b
key_refused k room t b rest h differ e = fails_here (nested (keyword k)) room nowhere b tt (λ x is agrees. differs_key k t b rest h differ e x agrees)

pub key_left_out : (k : Keyword) (room : ℕ) (b : List MarkedToken) → b ≡ [] → Fails (nested (keyword k)) room b b
key_left_out k room b e = fails_here (nested (keyword k)) room nowhere b tt (λ x is agrees. nothing_left (key k x) b e agrees)

never : (s : MarkedToken) → s ∷ [] ≡ [] → ⊥
never s e = cc

pub key_too_deep : (k : Keyword) (t : MarkedToken) (b rest : List MarkedToken) → is_key k ≡ true → keyword_of t ≡ k → b ≡ t ∷ rest → Deeper (nested (keyword k)) 0 b b
key_too_deep k t b rest h g e = begins_too_deep (keyword k) t t.token.place [] tt (ap (λ z. z ∷ []) (sym (told_key k t h g))) (λ x is f. absurd (never (key k x) f)) b rest e

pub key_found_under : (k : Keyword) (room : ℕ) (t : MarkedToken) (b rest : List MarkedToken) → is_key k ≡ true → keyword_of t ≡ k → 0 < room → b ≡ t ∷ rest → Found (nested (keyword k)) room b t.token.place rest
key_found_under k room t b rest h g more e = found_under (keyword k) room (room - 1) (omega (arith, more)) b rest t.token.place (key_found k (room - 1) t.token.place b rest h (told_rest b rest t _ e (told_key k t h g)))

-- Numerals.
pub numeral_found : (room : ℕ) (t : MarkedToken) (b rest : List MarkedToken) → keyword_of t ≡ keywords.Numeral → b ≡ t ∷ rest → Found numeral_form room b (word_of t) rest
numeral_found room t b rest h e = word_found Word numeral same_numeral room (word_of t) b rest (told_rest b rest t _ e (told_numeral t h))

pub numeral_refused : (room : ℕ) (t : MarkedToken) (b rest : List MarkedToken) → (keyword_of t ≡ keywords.Numeral → ⊥) → b ≡ t ∷ rest → Fails numeral_form room b b
numeral_refused room t b rest differ e = fails_here numeral_form room (word_at nowhere) b tt (λ x is agrees. differ (sym (ap keyword_of (same x agrees)) ∙ keyword_of-numeral x))
  where
    same : (x : Word) → Agrees b (numeral x ∷ []) → numeral x ≡ t
    same x agrees = let A : List MarkedToken → Type 0 = λ z. Agrees z (numeral x ∷ []) in subst A e agrees

pub numeral_left_out : (room : ℕ) (b : List MarkedToken) → b ≡ [] → Fails numeral_form room b b
numeral_left_out room b e = fails_here numeral_form room (word_at nowhere) b tt (λ x is agrees. nothing_left (numeral x) b e agrees)
