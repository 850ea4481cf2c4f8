-- The readings of identifiers and selectors with commas between them.
use Rattle.std.proofs.Common.{◌≡◌, ℕ, Bool, true, false, List, [], ◌∷◌, refl, sym, ap, subst, ◌∙◌}
use Rattle.mz_base.specs.declared.token.MarkedToken.{MarkedToken}
use Rattle.mz_forms.specs.declared.refusal.Refusal.{Refusal}
use Rattle.mz_forms.specs.Form.{Form, Found, Leads}
use Rattle.mz_forms.specs.Reading.{Refuses}
use Rattle.mz_forms.proofs.Chain.{Linked}
use Rattle.mz_forms.proofs.Choose.{Reshapes}
use Rattle.mz_forms.proofs.Leads.{leads_as, passes}
use Rattle.mz_forms.proofs.One.{One, one_class}
use Rattle.mz_forms.proofs.Words.{word_in_any, word_refuses}
use Rattle.mz_tree.specs.declared.word.Word.{Word}
use Rattle.mz_tree.specs.declared.word.Comma.{Comma}
use Rattle.mz_tree.specs.declared.chain.Next.{Next}
use Rattle.mz_tree.specs.declared.lists.Separated.{Separated}
use Rattle.mz_tree.specs.Spelled.{comma_token}
use Rattle.mz_tree.specs.Lists.{AreBehind, AreDivided}
use Rattle.mz_tree_heading.specs.declared.patterns.IdentifierTree.{IdentifierTree}
use Rattle.mz_tree_heading.specs.declared.structure.SelectorTree.{SelectorTree}
use Rattle.mz_pterm.specs.declared.sign.Sign.TheVariants as signs
use Rattle.mz_pterm.specs.Sign.{sign_of}
use Rattle.mz_pterm.specs.Words.{named, name}
use Rattle.mz_pterm.proofs.Signs.{same_named}
use Rattle.mz_ptype.proofs.DeclarationSteps.{comma_kind, comma_signed, comma_told}
use Rattle.mz_ptype.proofs.Optional.{never}
use Rattle.mz_pstep.specs.Forms.{links}
use Rattle.mz_pstep.proofs.DividedLists.{list_one}
use Rattle.mz_ppattern.specs.Classes.{goes_on_names}
use Rattle.mz_ppattern.specs.Forms.{identifier_token, identifier_form, selector_token, selector_form, never_ends, identifiers_form, selectors_form}

-- A name alone.
abbrev pub make_identifier : Word → IdentifierTree
make_identifier w = record { name = w }

as_identifier : (b : List MarkedToken) → Reshapes identifier_form (name signs.Identifier) make_identifier b
as_identifier b = record {
  into = λ w is. tt;
  spells = λ w is. refl;
  only = λ x is g. (x.name, tt, refl);
  goes = λ w t is g. absurd (never g);
  level = λ w is. refl;
}

begin_identifier : (room : ℕ) (b : List MarkedToken) → Leads identifier_form (name signs.Identifier) room make_identifier b b
begin_identifier room b = leads_as identifier_form (name signs.Identifier) make_identifier room b (as_identifier b)

pub identifier_refused : (room : ℕ) (b after : List MarkedToken) (e : Refusal) → Refuses (name signs.Identifier) 0 b e after → Refuses identifier_form room b e after
identifier_refused room b after e h = passes identifier_form (name signs.Identifier) room make_identifier b b after e (begin_identifier room b) (word_refuses Word (named signs.Identifier) room b after e h)

pub identifier_found : (room : ℕ) (w : Word) (b after : List MarkedToken) → Found (name signs.Identifier) 0 b w after → Found identifier_form room b (make_identifier w) after
identifier_found room w b after h = (begin_identifier room b).finds w after (word_in_any Word (named signs.Identifier) room b after w h)

abbrev pub make_selector : Word → SelectorTree
make_selector w = record { symbol = w }

as_selector : (b : List MarkedToken) → Reshapes selector_form (name signs.Selector) make_selector b
as_selector b = record {
  into = λ w is. tt;
  spells = λ w is. refl;
  only = λ x is g. (x.symbol, tt, refl);
  goes = λ w t is g. absurd (never g);
  level = λ w is. refl;
}

begin_selector : (room : ℕ) (b : List MarkedToken) → Leads selector_form (name signs.Selector) room make_selector b b
begin_selector room b = leads_as selector_form (name signs.Selector) make_selector room b (as_selector b)

pub selector_refused : (room : ℕ) (b after : List MarkedToken) (e : Refusal) → Refuses (name signs.Selector) 0 b e after → Refuses selector_form room b e after
selector_refused room b after e h = passes selector_form (name signs.Selector) room make_selector b b after e (begin_selector room b) (word_refuses Word (named signs.Selector) room b after e h)

pub selector_found : (room : ℕ) (w : Word) (b after : List MarkedToken) → Found (name signs.Selector) 0 b w after → Found selector_form room b (make_selector w) after
selector_found room w b after h = (begin_selector room b).finds w after (word_in_any Word (named signs.Selector) room b after w h)

-- Commas between names.
kind_on : (d : Bool) → goes_on_names (comma_kind d) ≡ true
kind_on true = refl
kind_on false = refl

comma_on : (c : Comma) → goes_on_names (sign_of (comma_token c)) ≡ true
comma_on c = ap goes_on_names (comma_signed c) ∙ kind_on c.dividing

pub linked_identifiers : Linked (links identifier_form never_ends goes_on_names)
linked_identifiers = record {
  told = λ a b e. comma_told a b e;
  weaker = λ x t is g. absurd (never g);
  on = λ c. comma_on c;
  apart = λ x c is may g. never g;
}

pub linked_selectors : Linked (links selector_form never_ends goes_on_names)
linked_selectors = record {
  told = λ a b e. comma_told a b e;
  weaker = λ x t is g. absurd (never g);
  on = λ c. comma_on c;
  apart = λ x c is may g. never g;
}

-- Every list of names is such.
any_behind : {X : Type 0} (ns : List (Next Comma X)) → AreBehind (λ (x : X). Unit {0}) never_ends false ns
any_behind [] = tt
any_behind (n ∷ ns) = (tt, tt, any_behind ns)

pub any_names : {X : Type 0} (s : Separated X) → AreDivided (λ (x : X). Unit {0}) never_ends s
any_names s = (tt, any_behind s.more)

-- Equal names.
same_identifier : (a b : IdentifierTree) → identifier_token a ≡ identifier_token b → a ≡ b
same_identifier a b e = ap make_identifier (same_named signs.Identifier refl a.name b.name e)

same_selector : (a b : SelectorTree) → selector_token a ≡ selector_token b → a ≡ b
same_selector a b e = ap make_selector (same_named signs.Selector refl a.symbol b.symbol e)

identifier_one : (n : ℕ) → One n identifier_form
identifier_one n = one_class n IdentifierTree identifier_token same_identifier

selector_one : (n : ℕ) → One n selector_form
selector_one n = one_class n SelectorTree selector_token same_selector

pub identifiers_one : (n : ℕ) → One n identifiers_form
identifiers_one n = list_one identifier_form never_ends goes_on_names linked_identifiers identifier_one n

pub selectors_one : (n : ℕ) → One n selectors_form
selectors_one n = list_one selector_form never_ends goes_on_names linked_selectors selector_one n
