-- The readings of justifications without a proof.
use Rattle.std.proofs.Common.{◌≡◌, ℕ, ◌-◌, ◌<◌, arith, Bool, true, false, ◌||◌, ◌&&◌, List, [], ◌∷◌, ◌++◌, refl, sym, ap, subst, ◌∙◌, Option, Some, None}
use Rattle.std.proofs.lemmas.Bool.{or_left, or_right}
use Rattle.mz_base.specs.declared.place.Place.{Place}
use Rattle.mz_base.specs.declared.token.MarkedToken.{MarkedToken}
use Rattle.mz_forms.specs.declared.refusal.Refusal.{Refusal}
use Rattle.mz_forms.specs.Form.{Form, Agrees, Found, Leads, is_empty, then, nested}
use Rattle.mz_forms.specs.Reading.{Refuses}
use Rattle.mz_forms.specs.Repeat.{IsMaybe}
use Rattle.mz_forms.proofs.Choose.{Chooses, Reshapes, finds_empty}
use Rattle.mz_forms.proofs.Compose.{Apart, head_of}
use Rattle.mz_forms.proofs.Leads.{leads_by, leads_as, leads_behind, leads_on, beside, passes, first_refuses}
use Rattle.mz_forms.proofs.Maybe.{Starts, begin_some, found_none}
use Rattle.mz_forms.proofs.Nested.{found_under, refuses_under}
use Rattle.mz_forms.proofs.Words.{apart_class, word_in_any, word_refuses}
use Rattle.mz_tree.specs.declared.lists.Separated.{Separated}
use Rattle.mz_tree.specs.Lists.{spell_separated}
use Rattle.mz_tree.specs.Rules.{IfAny}
use Rattle.mz_tree_proof.specs.declared.references.ReferenceTree.{ReferenceTree}
use Rattle.mz_tree_proof.specs.declared.references.ReferenceTree.TheVariants as reference_tree
use Rattle.mz_tree_proof.specs.declared.references.SchemeReferenceTree.{SchemeReferenceTree}
use Rattle.mz_tree_proof.specs.declared.references.PremisesTree.{PremisesTree}
use Rattle.mz_tree_proof.specs.declared.references.SimpleTree.{SimpleTree}
use Rattle.mz_tree_proof.specs.declared.references.SimpleTree.TheVariants as simple_tree
use Rattle.mz_tree_proof.specs.Spell.{spell_reference, spell_premises, spell_simple}
use Rattle.mz_tree_proof.specs.Levels.{levels_simple}
use Rattle.mz_tree_proof.specs.Rules.{ArePremises, IsSimple}
use Rattle.mz_pterm.specs.declared.sign.Sign.{Sign}
use Rattle.mz_pterm.specs.declared.sign.Sign.TheVariants as signs
use Rattle.mz_pterm.specs.Classes.{is_open}
use Rattle.mz_pterm.specs.Sign.{sign_of}
use Rattle.mz_pterm.specs.Words.{fixed, word}
use Rattle.mz_pterm.proofs.Bases.{word_at}
use Rattle.mz_pterm.proofs.Signs.{told_fixed}
use Rattle.mz_pterm.proofs.Steps.{behind_opening, opening_refuses}
use Rattle.mz_ptype.specs.Forms.{is_comma}
use Rattle.mz_ptype.proofs.Optional.{never}
use Rattle.mz_pjustification.specs.declared.keyword.Keyword.{Keyword}
use Rattle.mz_pjustification.specs.declared.keyword.Keyword.TheVariants as keywords
use Rattle.mz_pjustification.specs.Keyword.{keyword_of}
use Rattle.mz_pjustification.specs.Words.{is_key, key, tokens_of, TakesKey}
use Rattle.mz_pjustification.specs.Forms.{is_colon, goes_on_references, references_form, scheme_form, premises_form, opens_premises, maybe_premises, begins_simple, goes_on_simple, simple_form}
use Rattle.mz_pjustification.proofs.Keywords.{keyword_of-key, same_key}
use Rattle.mz_pjustification.proofs.Taken.{nowhere, key_among, fixed_among, or_goes, among_at, first_only}

-- References in parentheses.
abbrev pub to_right : Form MarkedToken
to_right = then (nested references_form) (λ _. word signs.Close)

abbrev pub parts_of_premises : Form MarkedToken
parts_of_premises = then (nested (word signs.Open)) (λ _. to_right)

abbrev pub make_premises : parts_of_premises.Tree → PremisesTree
make_premises k = record { left = k.0; references = k.1.0; right = k.1.1 }

pub references_close : Apart (nested references_form) (λ _. word signs.Close)
references_close = apart_class (nested references_form) (fixed signs.Close) (λ a q isa g. never (sym (fixed_among goes_on_references signs.Close q refl) ∙ g))

pub no_and : (b : Bool) → (false || (b && false)) ≡ true → ⊥
no_and true g = cc
no_and false g = cc

pub only_premises : (x : PremisesTree) → ArePremises x → (k : parts_of_premises.Tree) × parts_of_premises.IsTree k × (x ≡ make_premises k)
only_premises x is = ((x.left, (x.references, x.right)), (tt, (is, tt)), refl)

pub goes_premises : (k : parts_of_premises.Tree) (t : MarkedToken) → parts_of_premises.goes k t ≡ true → premises_form.goes (make_premises k) t ≡ true
goes_premises k t g = absurd (no_and (is_empty (to_right.spell k.1)) g)

pub as_premises : (b : List MarkedToken) → Reshapes premises_form parts_of_premises make_premises b
as_premises b = record {
  into = λ k is. is.1.0;
  spells = λ k is. refl;
  only = λ x is g. only_premises x is;
  goes = λ k t is g. goes_premises k t g;
  level = λ k is. refl;
}

begin_premises : (room : ℕ) (b : List MarkedToken) → Leads premises_form parts_of_premises room make_premises b b
begin_premises room b = leads_as premises_form parts_of_premises make_premises room b (as_premises b)

abbrev some_references : Separated ReferenceTree
some_references = record { first = reference_tree.Label (word_at nowhere); more = [] }

pub premises_unopened : (room : ℕ) (b after : List MarkedToken) (e : Refusal) → Refuses (nested (word signs.Open)) room b e after → Refuses premises_form room b e after
premises_unopened room b after e h = passes premises_form parts_of_premises room make_premises b b after e (begin_premises room b)
    (opening_refuses signs.Open (λ _. to_right) (λ p. ((some_references, p), (((tt, tt), tt)))) room b after e h)

module _ (room : ℕ) (more : 0 < room) (p : Place) (b d : List MarkedToken) (opened : Found (nested (word signs.Open)) room b p d) where
  begin_right : Leads premises_form to_right room (λ k. make_premises (p, k)) b d
  begin_right = leads_on premises_form parts_of_premises to_right room make_premises (beside (nested (word signs.Open)) (λ _. to_right) p) b b d (begin_premises room b) (behind_opening signs.Open (λ _. to_right) room b d p opened)

  pub premises_unread : (after : List MarkedToken) (e : Refusal) → Refuses references_form (room - 1) d e after → Refuses premises_form room b e after
  premises_unread after e h = passes premises_form to_right room (λ k. make_premises (p, k)) b d after e begin_right
      (first_refuses (nested references_form) (λ _. word signs.Close) references_close room d after e (λ a is. (nowhere, tt)) (refuses_under references_form room (room - 1) (omega (arith, more)) d after e h))

  module _ (s : Separated ReferenceTree) (g : List MarkedToken) (found : Found references_form (room - 1) d s g) where
    begin_close : Leads premises_form (word signs.Close) room (λ q. make_premises (p, (s, q))) b g
    begin_close = leads_on premises_form to_right (word signs.Close) room (λ k. make_premises (p, k)) (beside (nested references_form) (λ _. word signs.Close) s) b d g begin_right
        (leads_behind (nested references_form) (λ _. word signs.Close) references_close room d g s (found_under references_form room (room - 1) (omega (arith, more)) d g s found))

    pub premises_unclosed : (after : List MarkedToken) (e : Refusal) → Refuses (word signs.Close) 0 g e after → Refuses premises_form room b e after
    premises_unclosed after e h = passes premises_form (word signs.Close) room (λ q. make_premises (p, (s, q))) b g after e begin_close (word_refuses Place (fixed signs.Close) room g after e h)

    pub premises_found : (q : Place) (after : List MarkedToken) → Found (word signs.Close) 0 g q after → Found premises_form room b (record { left = p; references = s; right = q }) after
    premises_found q after h = begin_close.finds q after (word_in_any Place (fixed signs.Close) room g after q h)

-- They may be left out.
pub starts_premises : Starts premises_form (tokens_of opens_premises)
starts_premises = record {
  filled = λ x is e. cc;
  first = λ x t m is e. among_at opens_premises (fixed signs.Open x.left) t _ m e (fixed_among opens_premises signs.Open x.left refl);
}

pub premises_at_end : (room : ℕ) (b : List MarkedToken) → b ≡ [] → Found maybe_premises room b None b
premises_at_end room b e = let F : List MarkedToken → Type 0 = λ z. Found maybe_premises room z None z in subst F (sym e) (found_none premises_form (tokens_of opens_premises) starts_premises room [] tt)

only_open : (s : Sign) (k : Keyword) → opens_premises s k ≡ true → s ≡ signs.Open
only_open signs.Open k e = refl
only_open _ k e = cc

pub premises_lack : (room : ℕ) (t : MarkedToken) (b rest : List MarkedToken) → (sign_of t ≡ signs.Open → ⊥) → b ≡ t ∷ rest → Found maybe_premises room b None b
premises_lack room t b rest differ e = let F : List MarkedToken → Type 0 = λ z. Found maybe_premises room z None z in subst F (sym e) (found_none premises_form (tokens_of opens_premises) starts_premises room (t ∷ rest) (λ g. differ (only_open (sign_of t) (keyword_of t) g)))

begin_open : (room : ℕ) (t : MarkedToken) (b rest : List MarkedToken) → sign_of t ≡ signs.Open → b ≡ t ∷ rest → Leads maybe_premises premises_form room Some b b
begin_open room t b rest h e = begin_some premises_form (tokens_of opens_premises) starts_premises room t b rest (ap (λ s. opens_premises s (keyword_of t)) h)
    (record { left = t.token.place; references = some_references; right = nowhere }, _, (tt, tt), ap (λ z. z ∷ (spell_separated spell_reference some_references ++ fixed signs.Close nowhere ∷ [])) (sym (told_fixed signs.Open t refl h))) e

pub premises_refused : (room : ℕ) (t : MarkedToken) (b rest after : List MarkedToken) (r : Refusal) → sign_of t ≡ signs.Open → b ≡ t ∷ rest → Refuses premises_form room b r after → Refuses maybe_premises room b r after
premises_refused room t b rest after r h e refused = passes maybe_premises premises_form room Some b b after r (begin_open room t b rest h e) refused

pub some_premises : (room : ℕ) (t : MarkedToken) (x : PremisesTree) (b rest after : List MarkedToken) → sign_of t ≡ signs.Open → b ≡ t ∷ rest → Found premises_form room b x after → Found maybe_premises room b (Some x) after
some_premises room t x b rest after h e found = (begin_open room t b rest h e).finds x after found

-- `by`, `from`, or nothing.
within : (a b c d : Bool) → (a || b) ≡ true → ((a || c) || (b || d)) ≡ true
within true b c d e = refl
within false true true d e = refl
within false true false d e = refl
within false false c d e = cc

pub references_on : (s : Sign) (k : Keyword) → goes_on_references s k ≡ true → goes_on_simple s k ≡ true
references_on s k e = within (is_comma s) (is_colon k) (is_open s) (begins_simple k) e

colon_on : (s : Sign) (k : Keyword) → is_colon k ≡ true → goes_on_simple s k ≡ true
colon_on s k e = references_on s k (or_right (is_comma s) (is_colon k) e)

open_on : (s : Sign) (k : Keyword) → is_open s ≡ true → goes_on_simple s k ≡ true
open_on s k e = or_left (is_comma s || is_open s) (is_colon k || begins_simple k) (or_right (is_comma s) (is_open s) e)

-- `by`
differ : (a b : Keyword) (p q : Place) → is_key a ≡ true → is_key b ≡ true → key a p ≡ key b q → a ≡ b
differ a b p q f g e = sym (keyword_of-key a p f) ∙ (ap keyword_of e ∙ keyword_of-key b q g)

only_by : (p : Place) (x : SimpleTree) (m : List MarkedToken) → IsSimple x → spell_simple x ≡ key keywords.By p ∷ m → (k : Separated ReferenceTree) × references_form.IsTree k × (x ≡ simple_tree.By p k)
only_by p simple_tree.Nothing m is e = cc
only_by p (simple_tree.By q s) m is e = (s, is, ap (λ z. simple_tree.By z s) (same_key keywords.By refl q p (head_of _ _ _ _ e)))
only_by p (simple_tree.From q s o) m is e = absurd (clash (differ keywords.From keywords.By q p refl refl (head_of _ _ _ _ e)))
  where
    clash : keywords.From ≡ keywords.By → ⊥
    clash g = cc

pub by_by : (p : Place) → Chooses simple_form (key keywords.By p) references_form (λ k. simple_tree.By p k) 0
by_by p = record {
  level = λ k is. refl;
  into = λ k is. is;
  spells = λ k is. refl;
  only = λ x m is e. only_by p x m is e;
  empty = λ x is e. key_among goes_on_simple keywords.By p refl;
  goes = λ k t is g. references_on _ _ g;
}

begin_by : (room : ℕ) (p : Place) (b c : List MarkedToken) → b ≡ key keywords.By p ∷ c → Leads simple_form references_form room (λ k. simple_tree.By p k) b c
begin_by room p b c e = leads_by simple_form (key keywords.By p) references_form (λ k. simple_tree.By p k) 0 (by_by p) room (omega arith) b c e

pub by_refused : (room : ℕ) (p : Place) (b c after : List MarkedToken) (r : Refusal) → TakesKey keywords.By b (Some p) c → Refuses references_form room c r after → Refuses simple_form room b r after
by_refused room p b c after r e h = passes simple_form references_form room (λ k. simple_tree.By p k) b c after r (begin_by room p b c e) h

pub by_found : (room : ℕ) (p : Place) (s : Separated ReferenceTree) (b c after : List MarkedToken) → TakesKey keywords.By b (Some p) c → Found references_form room c s after → Found simple_form room b (simple_tree.By p s) after
by_found room p s b c after e h = (begin_by room p b c e).finds s after h

-- `from`
abbrev pub behind_from : Form MarkedToken
behind_from = then scheme_form (λ _. maybe_premises)

abbrev pub make_from : Place → behind_from.Tree → SimpleTree
make_from p k = simple_tree.From p k.0 k.1

only_from : (p : Place) (x : SimpleTree) (m : List MarkedToken) → IsSimple x → spell_simple x ≡ key keywords.From p ∷ m → (k : behind_from.Tree) × behind_from.IsTree k × (x ≡ make_from p k)
only_from p simple_tree.Nothing m is e = cc
only_from p (simple_tree.By q s) m is e = absurd (clash (differ keywords.By keywords.From q p refl refl (head_of _ _ _ _ e)))
  where
    clash : keywords.By ≡ keywords.From → ⊥
    clash g = cc
only_from p (simple_tree.From q s o) m is e = ((s, o), (is.0, any_maybe o is.1), ap (λ z. simple_tree.From z s o) (same_key keywords.From refl q p (head_of _ _ _ _ e)))
  where
    any_maybe : (o : Option PremisesTree) → IfAny ArePremises o → IsMaybe premises_form o
    any_maybe None h = tt
    any_maybe (Some x) h = h

from_into : (o : Option PremisesTree) → IsMaybe premises_form o → IfAny ArePremises o
from_into None h = tt
from_into (Some x) h = h

from_spells : (p : Place) (s : SchemeReferenceTree) (o : Option PremisesTree) → spell_simple (simple_tree.From p s o) ≡ key keywords.From p ∷ behind_from.spell (s, o)
from_spells p s None = refl
from_spells p s (Some x) = refl

from_levels : (p : Place) (s : SchemeReferenceTree) (o : Option PremisesTree) → levels_simple (simple_tree.From p s o) ≡ 0 ∷ behind_from.levels (s, o)
from_levels p s None = refl
from_levels p s (Some x) = refl

from_goes : (s : SchemeReferenceTree) (o : Option PremisesTree) (t : MarkedToken) → behind_from.goes (s, o) t ≡ true → tokens_of goes_on_simple t ≡ true
from_goes s None t g = or_goes (tokens_of opens_premises t) (tokens_of (λ s k. is_colon k) t) true (tokens_of goes_on_simple t) (λ h. open_on _ _ h) (λ h. colon_on _ _ h) g
from_goes s (Some x) t g = or_goes false (tokens_of (λ s k. is_colon k) t) (is_empty (spell_premises x)) (tokens_of goes_on_simple t) (λ h. absurd (never h)) (λ h. colon_on _ _ h) g

pub by_from : (p : Place) → Chooses simple_form (key keywords.From p) behind_from (make_from p) 0
by_from p = record {
  level = λ k is. from_levels p k.0 k.1;
  into = λ k is. (is.0, from_into k.1 is.1);
  spells = λ k is. from_spells p k.0 k.1;
  only = λ x m is e. only_from p x m is e;
  empty = λ x is e. key_among goes_on_simple keywords.From p refl;
  goes = λ k t is g. from_goes k.0 k.1 t g;
}

begin_from : (room : ℕ) (p : Place) (b c : List MarkedToken) → b ≡ key keywords.From p ∷ c → Leads simple_form behind_from room (make_from p) b c
begin_from room p b c e = leads_by simple_form (key keywords.From p) behind_from (make_from p) 0 (by_from p) room (omega arith) b c e

pub scheme_apart : Apart scheme_form (λ _. maybe_premises)
scheme_apart s None t x isa isk e g = cc
scheme_apart s (Some o) t x isa isk e g =
    let C : MarkedToken → Type 0 = λ z. tokens_of (λ s k. is_colon k) z ≡ true in
    never (sym (fixed_among (λ s k. is_colon k) signs.Open o.left refl) ∙ subst C (sym (head_of _ _ _ _ e)) g)

pub scheme_unread : (room : ℕ) (p : Place) (b c after : List MarkedToken) (r : Refusal) → TakesKey keywords.From b (Some p) c → Refuses scheme_form room c r after → Refuses simple_form room b r after
scheme_unread room p b c after r e h = passes simple_form behind_from room (make_from p) b c after r (begin_from room p b c e) (first_refuses scheme_form (λ _. maybe_premises) scheme_apart room c after r (λ a is. (None, tt)) h)

behind_scheme : (room : ℕ) (p : Place) (s : SchemeReferenceTree) (b c d : List MarkedToken) → TakesKey keywords.From b (Some p) c → Found scheme_form room c s d → Leads simple_form maybe_premises room (λ o. make_from p (s, o)) b d
behind_scheme room p s b c d e f = leads_on simple_form behind_from maybe_premises room (make_from p) (beside scheme_form (λ _. maybe_premises) s) b c d (begin_from room p b c e) (leads_behind scheme_form (λ _. maybe_premises) scheme_apart room c d s f)

pub from_refused : (room : ℕ) (p : Place) (s : SchemeReferenceTree) (b c d after : List MarkedToken) (r : Refusal) → TakesKey keywords.From b (Some p) c → Found scheme_form room c s d → Refuses maybe_premises room d r after → Refuses simple_form room b r after
from_refused room p s b c d after r e f h = passes simple_form maybe_premises room (λ o. make_from p (s, o)) b d after r (behind_scheme room p s b c d e f) h

pub from_found : (room : ℕ) (p : Place) (s : SchemeReferenceTree) (o : Option PremisesTree) (b c d after : List MarkedToken) → TakesKey keywords.From b (Some p) c → Found scheme_form room c s d → Found maybe_premises room d o after → Found simple_form room b (simple_tree.From p s o) after
from_found room p s o b c d after e f h = (behind_scheme room p s b c d e f).finds o after h

-- neither comes next
pub nothing_found : (room : ℕ) (b c after : List MarkedToken) → TakesKey keywords.By b None c → TakesKey keywords.From c None after → Found simple_form room b simple_tree.Nothing after
nothing_found room b c after by from_ =
    let F : List MarkedToken → Type 0 = λ z. Found simple_form room b simple_tree.Nothing z in
    let N : List MarkedToken → Type 0 = λ z. (p : Place) → Agrees z (key keywords.From p ∷ []) → ⊥ in
    subst F (by.0 ∙ from_.0) (record { found = finds_empty simple_form simple_tree.Nothing b tt refl (λ x is g. only (subst N (sym by.0) from_.1) x g); fits = λ i l. absurd (omega (arith, l)) })
  where
    only : ((p : Place) → Agrees b (key keywords.From p ∷ []) → ⊥) → (x : SimpleTree) → Agrees b (spell_simple x) → x ≡ simple_tree.Nothing
    only h simple_tree.Nothing g = refl
    only h (simple_tree.By p s) g = absurd (by.1 p (first_only b (key keywords.By p) (spell_separated spell_reference s) g))
    only h (simple_tree.From p s o) g = absurd (h p (first_only b (key keywords.From p) _ g))
