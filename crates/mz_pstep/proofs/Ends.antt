-- Parts one behind another, the last of which nothing goes on, and what may stand before a justification.
use Rattle.std.proofs.Common.{◌≡◌, Bool, true, false, ◌||◌, ◌&&◌, List, [], ◌∷◌, ◌++◌, refl, sym, subst, ◌∙◌, Option, Some, None}
use Rattle.mz_base.specs.declared.place.Place.{Place}
use Rattle.mz_base.specs.declared.token.MarkedToken.{MarkedToken}
use Rattle.mz_forms.specs.Form.{Form, is_empty, then, one_of}
use Rattle.mz_forms.proofs.Compose.{Apart, head_of}
use Rattle.mz_forms.proofs.Words.{apart_class}
use Rattle.mz_tree_proof.specs.declared.propositions.SuchTree.{SuchTree}
use Rattle.mz_tree_proof.specs.declared.references.SimpleTree.{SimpleTree}
use Rattle.mz_tree_proof.specs.declared.references.SimpleTree.TheVariants as simple_tree
use Rattle.mz_tree_proof.specs.Spell.{spell_simple}
use Rattle.mz_forms.specs.Repeat.{spell_maybe}
use Rattle.mz_pterm.specs.declared.sign.Sign.{Sign}
use Rattle.mz_pterm.specs.declared.sign.Sign.TheVariants as signs
use Rattle.mz_ptype.proofs.Optional.{never}
use Rattle.mz_pjustification.specs.declared.keyword.Keyword.{Keyword}
use Rattle.mz_pjustification.specs.declared.keyword.Keyword.TheVariants as keywords
use Rattle.mz_pjustification.specs.Words.{is_key, key, keyword, tokens_of}
use Rattle.mz_pjustification.specs.Forms.{simple_form}
use Rattle.mz_pjustification.proofs.Taken.{key_among}
use Rattle.mz_pproposition.specs.Forms.{such_form}
use Rattle.mz_pstep.specs.Forms.{maybe_such_form}

-- Each tree has a token, and nothing goes on it.
pub record Ends (F : Form MarkedToken) : Type 0 where
  pub filled : (x : F.Tree) → F.IsTree x → F.spell x ≡ [] → ⊥
  pub closed : (x : F.Tree) (t : MarkedToken) → F.IsTree x → F.goes x t ≡ true → ⊥

pub ends_class : (X : Type 0) (f : X → MarkedToken) → Ends (one_of X f)
ends_class X f = record { filled = λ x is e. cc; closed = λ x t is g. never g }

right_nil : (v w : List MarkedToken) → v ++ w ≡ [] → w ≡ []
right_nil [] w e = e
right_nil (t ∷ v) w e = cc

not_empty : (w : List MarkedToken) → (w ≡ [] → ⊥) → is_empty w ≡ false
not_empty [] h = absurd (h refl)
not_empty (t ∷ w) h = refl

off : (p q r : Bool) → (p ≡ true → ⊥) → r ≡ false → (p || (r && q)) ≡ true → ⊥
off true q r h e g = h refl
off false q true h e g = cc
off false q false h e g = cc

pub ends_then : (A : Form MarkedToken) (K : A.Tree → Form MarkedToken) → ((a : A.Tree) → Ends (K a)) → Ends (then A K)
ends_then A K h = record {
  filled = λ p is e. (h p.0).filled p.1 is.1 (right_nil (A.spell p.0) ((K p.0).spell p.1) e);
  closed = λ p t is g. off ((K p.0).goes p.1 t) (A.goes p.0 t) (is_empty ((K p.0).spell p.1)) (λ i. (h p.0).closed p.1 t is.1 i) (not_empty ((K p.0).spell p.1) (λ i. (h p.0).filled p.1 is.1 i)) g;
}

pub ends_key : (k : Keyword) → Ends (keyword k)
ends_key k = ends_class Place (key k)

-- a keyword stands behind what it doesn't go on
pub before_key : (A : Form MarkedToken) (k : Keyword) → ((a : A.Tree) (p : Place) → A.goes a (key k p) ≡ true → ⊥) → Apart A (λ _. keyword k)
before_key A k h = apart_class A (key k) (λ a p isa g. h a p g)

pub before_key_then : (A : Form MarkedToken) (k : Keyword) (K : Place → Form MarkedToken) → ((a : A.Tree) (p : Place) → A.goes a (key k p) ≡ true → ⊥) → Apart A (λ _. then (keyword k) K)
before_key_then A k K h a x s y isa isx e g = let G : MarkedToken → Type 0 = λ z. A.goes a z ≡ true in h a x.0 (subst G (sym (head_of _ _ _ _ e)) g)

-- A set that has none of these tokens.
abbrev pub Lacks : (Sign → Keyword → Bool) → Keyword → Type 0
Lacks c k = c signs.Other k ≡ false

pub key_off : (c : Sign → Keyword → Bool) (k : Keyword) (p : Place) → is_key k ≡ true → Lacks c k → tokens_of c (key k p) ≡ true → ⊥
key_off c k p is h g = never (sym h ∙ (sym (key_among c k p is) ∙ g))

at_first : (c : Sign → Keyword → Bool) (k : Keyword) (p : Place) (w x : List MarkedToken) (s : MarkedToken) → is_key k ≡ true → Lacks c k → key k p ∷ w ≡ s ∷ x → tokens_of c s ≡ true → ⊥
at_first c k p w x s is h e g = let C : MarkedToken → Type 0 = λ z. tokens_of c z ≡ true in key_off c k p is h (subst C (sym (head_of _ _ _ _ e)) g)

-- a justification, and the semicolon behind it
pub simple_off : (c : Sign → Keyword → Bool) → Lacks c keywords.By → Lacks c keywords.From → Lacks c keywords.Semicolon → (k : SimpleTree) (q : Place) (s : MarkedToken) (x : List MarkedToken) → spell_simple k ++ key keywords.Semicolon q ∷ [] ≡ s ∷ x → tokens_of c s ≡ true → ⊥
simple_off c by from_ end simple_tree.Nothing q s x e g = at_first c keywords.Semicolon q [] x s refl end e g
simple_off c by from_ end (simple_tree.By p rs) q s x e g = at_first c keywords.By p _ x s refl by e g
simple_off c by from_ end (simple_tree.From p r o) q s x e g = at_first c keywords.From p _ x s refl from_ e g

-- conditions or nothing, and the semicolon behind them
pub such_off : (c : Sign → Keyword → Bool) → Lacks c keywords.Such → Lacks c keywords.Semicolon → (o : Option SuchTree) (q : Place) (s : MarkedToken) (x : List MarkedToken) → spell_maybe such_form o ++ key keywords.Semicolon q ∷ [] ≡ s ∷ x → tokens_of c s ≡ true → ⊥
such_off c such end None q s x e g = at_first c keywords.Semicolon q [] x s refl end e g
such_off c such end (Some t) q s x e g = at_first c keywords.Such t.such _ x s refl such e g

-- conditions stand behind what `such` doesn't go on
pub before_such : (A : Form MarkedToken) (c : Sign → Keyword → Bool) → Lacks c keywords.Such → ((a : A.Tree) (t : MarkedToken) → A.goes a t ≡ true → tokens_of c t ≡ true) → (K : SuchTree → Form MarkedToken) → Apart A (λ _. then such_form K)
before_such A c h weak K a x s y isa isx e g = at_first c keywords.Such x.0.such _ y s refl h e (weak a s g)

pub such_or_nothing : (A : Form MarkedToken) (c : Sign → Keyword → Bool) → Lacks c keywords.Such → Lacks c keywords.Semicolon → ((a : A.Tree) (t : MarkedToken) → A.goes a t ≡ true → tokens_of c t ≡ true) → Apart A (λ _. then maybe_such_form (λ _. keyword keywords.Semicolon))
such_or_nothing A c h end weak a x s y isa isx e g = such_off c h end x.0 x.1 s y e (weak a s g)

pub before_simple : (A : Form MarkedToken) (c : Sign → Keyword → Bool) → Lacks c keywords.By → Lacks c keywords.From → Lacks c keywords.Semicolon → ((a : A.Tree) (t : MarkedToken) → A.goes a t ≡ true → tokens_of c t ≡ true) → Apart A (λ _. then simple_form (λ _. keyword keywords.Semicolon))
before_simple A c by from_ end weak a x s y isa isx e g = simple_off c by from_ end x.0 x.1 s y e (weak a s g)
