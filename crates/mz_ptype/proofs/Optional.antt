-- A token of a class that may come next, alone or with what stands behind it.
use Rattle.std.proofs.Common.{◌≡◌, ℕ, Bool, true, false, ◌||◌, ◌&&◌, List, [], ◌∷◌, ◌++◌, refl, sym, ap, subst, ◌∙◌, Some, None}
use Rattle.mz_base.specs.declared.token.MarkedToken.{MarkedToken}
use Rattle.mz_forms.specs.declared.refusal.Refusal.{Refusal}
use Rattle.mz_forms.specs.Form.{Form, Agrees, Found, Fails, Leads, is_empty, then, one_of}
use Rattle.mz_forms.specs.Reading.{Refuses}
use Rattle.mz_forms.specs.Repeat.{maybe}
use Rattle.mz_forms.proofs.Compose.{head_of}
use Rattle.mz_forms.proofs.Leads.{leads_on, beside, passes}
use Rattle.mz_forms.proofs.Lists.{Begun}
use Rattle.mz_forms.proofs.Maybe.{Starts, Lacks, begin_some, found_none}
use Rattle.mz_forms.proofs.Words.{word_found, behind_word}
use Rattle.mz_pterm.specs.declared.sign.Sign.{Sign}
use Rattle.mz_pterm.specs.Sign.{sign_of}

pub true_not_false : (b : Bool) → b ≡ false → b ≡ true → ⊥
true_not_false true e f = cc
true_not_false false e f = cc

pub never : false ≡ true → ⊥
never e = cc

-- what stands before a token isn't empty
pub token_in : (w v : List MarkedToken) (t : MarkedToken) → is_empty (w ++ t ∷ v) ≡ false
token_in [] v t = refl
token_in (s ∷ w) v t = refl

pub last_of_or : (p q : Bool) → p ≡ false → (p || q) ≡ true → q ≡ true
last_of_or true q e f = cc
last_of_or false q e f = f

pub off_and : (p q : Bool) → p ≡ false → (p && q) ≡ true → ⊥
off_and true q e f = cc
off_and false q e f = cc

module _ (X : Type 0) (f : X → MarkedToken) (told : (a b : X) → f a ≡ f b → a ≡ b) (c : Sign → Bool) (own : (x : X) → c (sign_of (f x)) ≡ true) (only : (t : MarkedToken) → c (sign_of t) ≡ true → (x : X) × (f x ≡ t)) where
  abbrev pub class : MarkedToken → Bool
  class t = c (sign_of t)

  on_head : (s t : MarkedToken) (v w : List MarkedToken) → s ∷ v ≡ t ∷ w → class s ≡ true → class t ≡ true
  on_head s t v w e h = let C : MarkedToken → Type 0 = λ z. class z ≡ true in subst C (head_of _ _ _ _ e) h

  lacks_in : (b : List MarkedToken) → ((x : X) → Agrees b (f x ∷ []) → ⊥) → (s : MarkedToken) (v : List MarkedToken) → b ≡ s ∷ v → class s ≡ true → ⊥
  lacks_in b h s v e g = let k = only s g in let A : List MarkedToken → Type 0 = λ z. Agrees z (f k.0 ∷ []) in h k.0 (subst A (sym e) k.1)

  -- the token alone
  pub starts_class : Starts (one_of X f) class
  starts_class = record { filled = λ x is e. cc; first = λ x t m is e. on_head (f x) t [] m e (own x) }

  pub class_taken : (room : ℕ) (x : X) (b after : List MarkedToken) → b ≡ f x ∷ after → Found (maybe (one_of X f) class) room b (Some x) after
  class_taken room x b after e = (begin_some (one_of X f) class starts_class room (f x) b after (own x) (x, [], tt, refl) e).finds x after (word_found X f told room x b after e)

  pub class_lacks : (room : ℕ) (b after : List MarkedToken) → b ≡ after → ((x : X) → Agrees b (f x ∷ []) → ⊥) → Found (maybe (one_of X f) class) room b None after
  class_lacks room b after e h = let F : List MarkedToken → Type 0 = λ z. Found (maybe (one_of X f) class) room b None z in subst F e (found_none (one_of X f) class starts_class room b (go b refl))
    where
      go : (z : List MarkedToken) → b ≡ z → Lacks (one_of X f) class starts_class z
      go [] g = tt
      go (s ∷ v) g = lacks_in b h s v g

  -- the token, and what stands behind it
  module _ (K : Form MarkedToken) (some : K.Tree) (is_some : K.IsTree some) where
    abbrev pub behind : Form MarkedToken
    behind = then (one_of X f) (λ _. K)

    pub starts_behind : Starts behind class
    starts_behind = record { filled = λ x is e. cc; first = λ x t m is e. on_head (f x.0) t (K.spell x.1) m e (own x.0) }

    pub behind_taken : (room : ℕ) (x : X) (b d : List MarkedToken) → b ≡ f x ∷ d → Leads (maybe behind class) K room (λ k. Some (x, k)) b d
    behind_taken room x b d e = leads_on (maybe behind class) behind K room Some (beside (one_of X f) (λ _. K) x) b b d
        (begin_some behind class starts_behind room (f x) b d (own x) ((x, some), K.spell some, (tt, is_some), refl) e)
        (behind_word X f (λ _. K) room b d x (word_found X f told 0 x b d e))

    pub behind_refused : (room : ℕ) (x : X) (b d after : List MarkedToken) (e : Refusal) → b ≡ f x ∷ d → Refuses K room d e after → Refuses (maybe behind class) room b e after
    behind_refused room x b d after e g h = passes (maybe behind class) K room (λ k. Some (x, k)) b d after e (behind_taken room x b d g) h

    pub behind_lacks : (room : ℕ) (b after : List MarkedToken) → b ≡ after → ((x : X) → Agrees b (f x ∷ []) → ⊥) → Found (maybe behind class) room b None after
    behind_lacks room b after e h = let F : List MarkedToken → Type 0 = λ z. Found (maybe behind class) room b None z in subst F e (found_none behind class starts_behind room b (go b refl))
      where
        go : (z : List MarkedToken) → b ≡ z → Lacks behind class starts_behind z
        go [] g = tt
        go (s ∷ v) g = lacks_in b h s v g
