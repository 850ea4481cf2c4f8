-- Parts that may be left out, and lists of parts, as trees spell them.
use Rattle.std.proofs.Common.{◌≡◌, ℕ, Bool, true, false, List, [], ◌∷◌, refl, Option, Some, None}
use Rattle.mz_base.specs.declared.token.MarkedToken.{MarkedToken}
use Rattle.mz_forms.specs.declared.refusal.Refusal.{Refusal}
use Rattle.mz_forms.specs.Form.{Form, Found, Leads}
use Rattle.mz_forms.specs.Reading.{Refuses}
use Rattle.mz_forms.specs.Repeat.{maybe, IsMaybe, spell_maybe, levels_maybe}
use Rattle.mz_forms.proofs.Choose.{Reshapes}
use Rattle.mz_forms.proofs.Leads.{leads_as, leads_on, passes}
use Rattle.mz_forms.proofs.Lists.{Begun}
use Rattle.mz_forms.proofs.Maybe.{Starts, Lacks, begin_some, found_none}
use Rattle.mz_forms.proofs.One.{One, one_as}
use Rattle.mz_forms.proofs.OneRepeat.{one_maybe}
use Rattle.mz_tree.specs.Spelled as spelled
use Rattle.mz_tree.specs.Rules.{IfAny}
use Rattle.mz_ptype.proofs.Optional.{true_not_false}
use Rattle.mz_ppattern.specs.Optional.{optional, next_has}

module _ (X : Form MarkedToken) (begins : MarkedToken → Bool) (by : Starts X begins) where
  abbrev put : Option X.Tree → Option X.Tree
  put o = o

  into : (o : Option X.Tree) → IsMaybe X o → IfAny X.IsTree o
  into None is = tt
  into (Some x) is = is

  from : (o : Option X.Tree) → IfAny X.IsTree o → IsMaybe X o
  from None is = tt
  from (Some x) is = is

  spells : (o : Option X.Tree) → spelled.maybe X.spell o ≡ spell_maybe X o
  spells None = refl
  spells (Some x) = refl

  leveled : (o : Option X.Tree) → spelled.maybe X.levels o ≡ levels_maybe X o
  leveled None = refl
  leveled (Some x) = refl

  as_optional : (b : List MarkedToken) → Reshapes (optional X begins) (maybe X begins) put b
  as_optional b = record {
    into = λ o is. into o is;
    spells = λ o is. spells o;
    only = λ o is g. (o, from o is, refl);
    goes = λ o t is g. g;
    level = λ o is. leveled o;
  }

  begin_optional : (room : ℕ) (b : List MarkedToken) → Leads (optional X begins) (maybe X begins) room put b b
  begin_optional room b = leads_as (optional X begins) (maybe X begins) put room b (as_optional b)

  lacks : (b : List MarkedToken) → next_has begins b ≡ false → Lacks X begins by b
  lacks [] h = tt
  lacks (t ∷ b) h = λ g. true_not_false (begins t) h g

  pub optional_none : (room : ℕ) (b : List MarkedToken) → next_has begins b ≡ false → Found (optional X begins) room b None b
  optional_none room b h = (begin_optional room b).finds None b (found_none X begins by room b (lacks b h))

  module _ (some : (t : MarkedToken) → begins t ≡ true → Begun X t) where
    begun_maybe : (room : ℕ) (b : List MarkedToken) → next_has begins b ≡ true → Leads (maybe X begins) X room Some b b
    begun_maybe room [] h = absurd (no h)
      where
        no : false ≡ true → ⊥
        no e = cc
    begun_maybe room (t ∷ b) h = begin_some X begins by room t (t ∷ b) b h (some t h) refl

    pub optional_some : (room : ℕ) (b : List MarkedToken) → next_has begins b ≡ true → Leads (optional X begins) X room Some b b
    optional_some room b h = leads_on (optional X begins) (maybe X begins) X room put Some b b b (begin_optional room b) (begun_maybe room b h)

    pub optional_refused : (room : ℕ) (b after : List MarkedToken) (e : Refusal) → next_has begins b ≡ true → Refuses X room b e after → Refuses (optional X begins) room b e after
    optional_refused room b after e h refused = passes (optional X begins) X room Some b b after e (optional_some room b h) refused

    pub optional_found : (room : ℕ) (x : X.Tree) (b after : List MarkedToken) → next_has begins b ≡ true → Found X room b x after → Found (optional X begins) room b (Some x) after
    optional_found room x b after h found = (optional_some room b h).finds x after found

  pub one_optional : (n : ℕ) → One n X → One n (optional X begins)
  one_optional n one = one_as n (optional X begins) (maybe X begins) put (λ o is. (o, from o is, refl)) (λ o is. spells o) (λ o t is g. g) (one_maybe X begins by n one)
