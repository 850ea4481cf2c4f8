-- Sets of tokens that forms don't begin with.
use Rattle.std.proofs.Common.{◌≡◌, Bool, true, List, [], ◌∷◌, ◌++◌, refl, sym, ap, subst, ◌∙◌, Option, Some, None}
use Rattle.mz_base.specs.declared.token.MarkedToken.{MarkedToken}
use Rattle.mz_forms.specs.Form.{Form, then, nested, one_of}
use Rattle.mz_forms.proofs.Compose.{Apart, head_of}
use Rattle.mz_ppattern.specs.Optional.{optional}

-- No tree of the form begins with a token of the set.
abbrev pub Off : (MarkedToken → Bool) → Form MarkedToken → Type 0
Off c B = (x : B.Tree) (s : MarkedToken) (m : List MarkedToken) → B.IsTree x → B.spell x ≡ s ∷ m → c s ≡ true → ⊥

pub head_off : (c : MarkedToken → Bool) (t s : MarkedToken) (w m : List MarkedToken) → t ∷ w ≡ s ∷ m → (c t ≡ true → ⊥) → c s ≡ true → ⊥
head_off c t s w m e h g = let C : MarkedToken → Type 0 = λ z. c z ≡ true in h (subst C (sym (head_of _ _ _ _ e)) g)

pub apart_off : (A B : Form MarkedToken) (c : MarkedToken → Bool) → ((a : A.Tree) (t : MarkedToken) → A.IsTree a → A.goes a t ≡ true → c t ≡ true) → Off c B → Apart A (λ _. B)
apart_off A B c weak off a k s x isa isk e g = off k s x isk e (weak a s isa g)

pub off_one : (c : MarkedToken → Bool) {X : Type 0} (f : X → MarkedToken) → ((x : X) → c (f x) ≡ true → ⊥) → Off c (one_of X f)
off_one c f h x s m is e g = head_off c (f x) s [] m e (h x) g

pub off_one_then : (c : MarkedToken → Bool) {X : Type 0} (f : X → MarkedToken) (K : X → Form MarkedToken) → ((x : X) → c (f x) ≡ true → ⊥) → Off c (then (one_of X f) K)
off_one_then c f K h x s m is e g = head_off c (f x.0) s _ m e (h x.0) g

pub off_nested_then : (c : MarkedToken → Bool) {X : Type 0} (f : X → MarkedToken) (K : X → Form MarkedToken) → ((x : X) → c (f x) ≡ true → ⊥) → Off c (then (nested (one_of X f)) K)
off_nested_then c f K h x s m is e g = head_off c (f x.0) s _ m e (h x.0) g

-- where the first part may be left out
pub off_optional_then : (c : MarkedToken → Bool) (X : Form MarkedToken) (begins : MarkedToken → Bool) (B : Form MarkedToken) → Off c X → ((x : X.Tree) → X.IsTree x → X.spell x ≡ [] → ⊥) → Off c B → Off c (then (optional X begins) (λ _. B))
off_optional_then c X begins B off filled behind x s m is e g = go x.0 is.0 e
  where
    go : (o : Option X.Tree) → (optional X begins).IsTree o → (optional X begins).spell o ++ B.spell x.1 ≡ s ∷ m → ⊥
    go None i f = behind x.1 s m is.1 f g
    go (Some y) i f = at (X.spell y) refl f
      where
        at : (w : List MarkedToken) → X.spell y ≡ w → X.spell y ++ B.spell x.1 ≡ s ∷ m → ⊥
        at [] h j = filled y i h
        at (t ∷ w) h j =
            let k : t ∷ (w ++ B.spell x.1) ≡ s ∷ m = ap (λ z. z ++ B.spell x.1) (sym h) ∙ j in
            let C : MarkedToken → Type 0 = λ z. c z ≡ true in
            off y t w i h (subst C (sym (head_of _ _ _ _ k)) g)

pub off_then : (c : MarkedToken → Bool) (A : Form MarkedToken) (K : A.Tree → Form MarkedToken) → Off c A → ((x : A.Tree) → A.IsTree x → A.spell x ≡ [] → ⊥) → Off c (then A K)
off_then c A K off filled x s m is e g = go (A.spell x.0) refl
  where
    go : (w : List MarkedToken) → A.spell x.0 ≡ w → ⊥
    go [] h = filled x.0 is.0 h
    go (t ∷ w) h =
        let k : t ∷ (w ++ (K x.0).spell x.1) ≡ s ∷ m = ap (λ z. z ++ (K x.0).spell x.1) (sym h) ∙ e in
        let C : MarkedToken → Type 0 = λ z. c z ≡ true in
        off x.0 t w is.0 h (subst C (sym (head_of _ _ _ _ k)) g)
