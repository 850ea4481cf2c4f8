-- Parts one behind another, and what they don't begin with.
use Rattle.std.proofs.Common.{◌≡◌, ℕ, Bool, true, false, ◌||◌, ◌&&◌, List, [], ◌∷◌, ◌++◌, refl, sym, ap, ◌∙◌, append_assoc, Option, Some, None}
use Rattle.mz_base.specs.declared.token.MarkedToken.{MarkedToken}
use Rattle.mz_forms.specs.declared.refusal.Refusal.{Refusal}
use Rattle.mz_forms.specs.Form.{Form, Found, Leads, then}
use Rattle.mz_forms.specs.Reading.{Refuses}
use Rattle.mz_forms.proofs.Compose.{Apart, head_of}
use Rattle.mz_forms.proofs.Leads.{leads_behind, leads_on, beside, passes, first_refuses}
use Rattle.mz_pterm.specs.declared.sign.Sign.{Sign}
use Rattle.mz_pterm.specs.declared.sign.Sign.TheVariants as signs
use Rattle.mz_pterm.specs.Sign.{sign_of}
use Rattle.mz_ptype.proofs.Optional.{never}
use Rattle.mz_ppattern.specs.Optional.{optional}
use Rattle.mz_ppattern.proofs.Sets.{Off, apart_off}

-- The next part of a sequence was read, or is refused.
module _ (F A : Form MarkedToken) (K : A.Tree → Form MarkedToken) (apart : Apart A K) (room : ℕ) (b now : List MarkedToken) (build : (then A K).Tree → F.Tree) (leads : Leads F (then A K) room build b now) where
  pub next : (x : A.Tree) (c : List MarkedToken) → Found A room now x c → Leads F (K x) room (λ k. build (x, k)) b c
  next x c h = leads_on F (then A K) (K x) room build (beside A K x) b now c leads (leads_behind A K apart room now c x h)

  pub stopped : (after : List MarkedToken) (e : Refusal) → ((a : A.Tree) → A.IsTree a → (k : (K a).Tree) × (K a).IsTree k) → Refuses A room now e after → Refuses F room b e after
  stopped after e some h = passes F (then A K) room build b now after e leads (first_refuses A K apart room now after e some h)

-- Each tree's first token has no sign.
abbrev pub Unsigned : Form MarkedToken → Type 0
Unsigned F = (x : F.Tree) (t : MarkedToken) (m : List MarkedToken) → F.IsTree x → F.spell x ≡ t ∷ m → sign_of t ≡ signs.Other

pub off_unsigned : (c : Sign → Bool) (F : Form MarkedToken) → c signs.Other ≡ false → Unsigned F → Off (λ t. c (sign_of t)) F
off_unsigned c F none h x t m is e g = never (sym none ∙ (ap c (sym (h x t m is e)) ∙ g))

pub apart_unsigned : (A F : Form MarkedToken) (c : Sign → Bool) → ((a : A.Tree) (t : MarkedToken) → A.IsTree a → A.goes a t ≡ true → c (sign_of t) ≡ true) → c signs.Other ≡ false → Unsigned F → Apart A (λ _. F)
apart_unsigned A F c weak none h = apart_off A F (λ t. c (sign_of t)) weak (off_unsigned c F none h)

pub sign_of-unsigned_then : {X : Type 0} (f : X → MarkedToken) (K : X → Form MarkedToken) → ((x : X) → sign_of (f x) ≡ signs.Other) → (y : (k : X) × (K k).Tree) (t : MarkedToken) (m : List MarkedToken) → (f y.0 ∷ []) ++ (K y.0).spell y.1 ≡ t ∷ m → sign_of t ≡ signs.Other
sign_of-unsigned_then f K h y t m e = sym (ap sign_of (head_of _ _ _ _ e)) ∙ h y.0

-- the first part may be left out
pub unsigned_optional : (X : Form MarkedToken) (begins : MarkedToken → Bool) (F : Form MarkedToken) → Unsigned X → ((x : X.Tree) → X.IsTree x → X.spell x ≡ [] → ⊥) → Unsigned F → Unsigned (then (optional X begins) (λ _. F))
unsigned_optional X begins F first filled behind y t m is e = go y.0 is.0 e
  where
    go : (o : Option X.Tree) → (optional X begins).IsTree o → (optional X begins).spell o ++ F.spell y.1 ≡ t ∷ m → sign_of t ≡ signs.Other
    go None i f = behind y.1 t m is.1 f
    go (Some x) i f = at (X.spell x) refl f
      where
        at : (w : List MarkedToken) → X.spell x ≡ w → X.spell x ++ F.spell y.1 ≡ t ∷ m → sign_of t ≡ signs.Other
        at [] h j = absurd (filled x i h)
        at (s ∷ w) h j =
            let k : s ∷ (w ++ F.spell y.1) ≡ t ∷ m = ap (λ z. z ++ F.spell y.1) (sym h) ∙ j in
            sym (ap sign_of (head_of _ _ _ _ k)) ∙ first x s w i h

-- Booleans.
pub or_left : (p q : Bool) → p ≡ true → (p || q) ≡ true
or_left true q h = refl
or_left false q h = cc

pub or_right : (p q : Bool) → q ≡ true → (p || q) ≡ true
or_right true q h = refl
or_right false q h = h

-- what goes on a form behind a token is what goes on the form
pub or_next : (p q r : Bool) → r ≡ false → (p || (r && q)) ≡ true → p ≡ true
or_next true q r h g = refl
or_next false q true h g = cc
or_next false q false h g = cc

-- parts append-grouped to the left, and to the right
pub append-grouped : {X : Type 0} (a b c d : List X) → ((a ++ b) ++ c) ++ d ≡ a ++ (b ++ (c ++ d))
append-grouped a b c d = append_assoc (a ++ b) c d ∙ append_assoc a b (c ++ d)
