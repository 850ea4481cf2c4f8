-- The readings of patterns that are parts one behind another.
use Rattle.std.proofs.Common.{◌≡◌, ℕ, Bool, true, false, List, [], ◌∷◌, refl, sym, ap, subst, ◌∙◌, Option, Some, None}
use Rattle.mz_base.specs.declared.place.Place.{Place}
use Rattle.mz_base.specs.declared.token.MarkedToken.{MarkedToken}
use Rattle.mz_forms.specs.declared.refusal.Refusal.{Refusal}
use Rattle.mz_forms.specs.Form.{Form, Found, Leads, is_empty, then, one_of}
use Rattle.mz_forms.specs.Reading.{Refuses}
use Rattle.mz_forms.proofs.Choose.{Reshapes}
use Rattle.mz_forms.proofs.Compose.{Apart, head_of}
use Rattle.mz_forms.proofs.Leads.{leads_as, leads_behind, leads_on, beside, apart_closed, passes, first_refuses}
use Rattle.mz_forms.proofs.Words.{apart_class}
use Rattle.mz_tree.specs.declared.word.Word.{Word}
use Rattle.mz_tree.specs.declared.lists.Separated.{Separated}
use Rattle.mz_tree.specs.Rules.{IfAny}
use Rattle.mz_tree_heading.specs.declared.patterns.IdentifierTree.{IdentifierTree}
use Rattle.mz_tree_heading.specs.declared.patterns.LociTree.{LociTree}
use Rattle.mz_tree_heading.specs.declared.patterns.ModeLociTree.{ModeLociTree}
use Rattle.mz_tree_heading.specs.declared.patterns.SymbolPatternTree.{SymbolPatternTree}
use Rattle.mz_tree_heading.specs.declared.patterns.PredicatePatternTree.{PredicatePatternTree}
use Rattle.mz_tree_heading.specs.declared.patterns.AttributePatternTree.{AttributePatternTree}
use Rattle.mz_tree_heading.specs.declared.patterns.ModePatternTree.{ModePatternTree}
use Rattle.mz_pterm.specs.declared.sign.Sign.TheVariants as signs
use Rattle.mz_pterm.specs.Sign.{sign_of}
use Rattle.mz_pterm.specs.Words.{fixed, named, word, name}
use Rattle.mz_pterm.proofs.Bases.{word_at}
use Rattle.mz_pterm.proofs.Signs.{sign_of-named, sign_of-functor}
use Rattle.mz_ptype.proofs.Optional.{never}
use Rattle.mz_pjustification.proofs.Taken.{nowhere, or_goes}
use Rattle.mz_ppattern.specs.Classes.{goes_on_names, goes_on_pattern}
use Rattle.mz_ppattern.specs.Forms.{identifiers_form, functor_token, functor_form, loci_form, optional_loci, optional_identifiers, mode_loci_form, optional_mode_loci, symbol_pattern_form, predicate_pattern_form, attribute_pattern_form, mode_pattern_form}
use Rattle.mz_ppattern.proofs.NameSteps.{any_names}
use Rattle.mz_ppattern.proofs.SymbolSteps.{some_names}
use Rattle.mz_ppattern.proofs.LociSteps.{optional_loci_on, optional_identifiers_on, optional_mode_loci_on}

-- No rule is on loci and identifiers.
pub any_loci : (o : Option LociTree) → optional_loci.IsTree o
any_loci None = tt
any_loci (Some x) = tt

pub any_identifiers : (o : Option (Separated IdentifierTree)) → optional_identifiers.IsTree o
any_identifiers None = tt
any_identifiers (Some x) = any_names x

pub any_mode_loci : (o : Option ModeLociTree) → optional_mode_loci.IsTree o
any_mode_loci None = tt
any_mode_loci (Some x) = tt

-- mode_loci
abbrev pub mode_loci_2 : Form MarkedToken
mode_loci_2 = identifiers_form

abbrev pub mode_loci_1 : Form MarkedToken
mode_loci_1 = then (word signs.Of) (λ _. mode_loci_2)

-- symbol_pattern
abbrev pub symbol_pattern_3 : Form MarkedToken
symbol_pattern_3 = optional_loci

abbrev pub symbol_pattern_2 : Form MarkedToken
symbol_pattern_2 = then functor_form (λ _. symbol_pattern_3)

abbrev pub symbol_pattern_1 : Form MarkedToken
symbol_pattern_1 = then optional_loci (λ _. symbol_pattern_2)

-- predicate_pattern
abbrev pub predicate_pattern_3 : Form MarkedToken
predicate_pattern_3 = optional_identifiers

abbrev pub predicate_pattern_2 : Form MarkedToken
predicate_pattern_2 = then (name signs.Predicate) (λ _. predicate_pattern_3)

abbrev pub predicate_pattern_1 : Form MarkedToken
predicate_pattern_1 = then optional_identifiers (λ _. predicate_pattern_2)

-- attribute_pattern
abbrev pub attribute_pattern_4 : Form MarkedToken
attribute_pattern_4 = name signs.Attribute

abbrev pub attribute_pattern_3 : Form MarkedToken
attribute_pattern_3 = then optional_loci (λ _. attribute_pattern_4)

abbrev pub attribute_pattern_2 : Form MarkedToken
attribute_pattern_2 = then (word signs.Is) (λ _. attribute_pattern_3)

abbrev pub attribute_pattern_1 : Form MarkedToken
attribute_pattern_1 = then (name signs.Identifier) (λ _. attribute_pattern_2)

-- mode_pattern
abbrev pub mode_pattern_2 : Form MarkedToken
mode_pattern_2 = optional_mode_loci

abbrev pub mode_pattern_1 : Form MarkedToken
mode_pattern_1 = then (name signs.Mode) (λ _. mode_pattern_2)

-- a class of tokens behind what it doesn't go on
before_class : (A : Form MarkedToken) {X : Type 0} (f : X → MarkedToken) (K : X → Form MarkedToken) → ((a : A.Tree) (x : X) → A.goes a (f x) ≡ true → ⊥) → Apart A (λ _. then (one_of X f) K)
before_class A f K h a k s x isa isk e g = let G : MarkedToken → Type 0 = λ z. A.goes a z ≡ true in h a k.0 (subst G (sym (head_of _ _ _ _ e)) g)

loci_before_functor : Apart optional_loci (λ _. symbol_pattern_2)
loci_before_functor = before_class optional_loci functor_token (λ _. optional_loci) (λ a x g. never (sym (ap goes_on_pattern (sign_of-functor x.0 x.1)) ∙ optional_loci_on a (functor_token x) g))

identifiers_before_predicate : Apart optional_identifiers (λ _. predicate_pattern_2)
identifiers_before_predicate = before_class optional_identifiers (named signs.Predicate) (λ _. optional_identifiers) (λ a x g. never (sym (ap goes_on_pattern (sign_of-named signs.Predicate x refl)) ∙ optional_identifiers_on a (named signs.Predicate x) g))

loci_before_attribute : Apart optional_loci (λ _. attribute_pattern_4)
loci_before_attribute = apart_class optional_loci (named signs.Attribute) (λ a x isa g. never (sym (ap goes_on_pattern (sign_of-named signs.Attribute x refl)) ∙ optional_loci_on a (named signs.Attribute x) g))

pub mode_loci_apart_1 : Apart (word signs.Of) (λ _. mode_loci_2)
mode_loci_apart_1 = apart_closed (word signs.Of) (λ _. mode_loci_2) (λ a t. refl)

abbrev pub make_mode_loci : mode_loci_1.Tree → ModeLociTree
make_mode_loci k = record { of = k.0; identifiers = k.1 }

pub only_mode_loci : (x : ModeLociTree) → mode_loci_form.IsTree x → (k : mode_loci_1.Tree) × mode_loci_1.IsTree k × (x ≡ make_mode_loci k)
only_mode_loci x is = ((x.of, x.identifiers), (tt, any_names x.identifiers), refl)

mode_loci_goes : (k : mode_loci_1.Tree) (t : MarkedToken) → mode_loci_1.goes k t ≡ true → goes_on_names (sign_of t) ≡ true
mode_loci_goes k t g = or_goes (mode_loci_2.goes k.1 t) ((word signs.Of).goes k.0 t) (is_empty (mode_loci_2.spell k.1)) (goes_on_names (sign_of t)) (λ h0. h0) (λ h0. absurd (never h0)) g

pub as_mode_loci : (b : List MarkedToken) → Reshapes mode_loci_form mode_loci_1 make_mode_loci b
as_mode_loci b = record {
  into = λ k is. tt;
  spells = λ k is. refl;
  only = λ x is g. only_mode_loci x is;
  goes = λ k t is g. mode_loci_goes k t g;
  level = λ k is. refl;
}

begin_mode_loci : (room : ℕ) (b : List MarkedToken) → Leads mode_loci_form mode_loci_1 room make_mode_loci b b
begin_mode_loci room b = leads_as mode_loci_form mode_loci_1 make_mode_loci room b (as_mode_loci b)

pub mode_loci_refused_1 : (room : ℕ) (b after : List MarkedToken) (e : Refusal) → Refuses (word signs.Of) room b e after → Refuses mode_loci_form room b e after
mode_loci_refused_1 room b after e h = passes mode_loci_form mode_loci_1 room make_mode_loci b b after e (begin_mode_loci room b) (first_refuses (word signs.Of) (λ _. mode_loci_2) mode_loci_apart_1 room b after e (λ a is. (some_names, (tt, tt))) h)

module _ (room : ℕ) (b : List MarkedToken) where
  module _ (x1 : Place) (c1 : List MarkedToken) (h1 : Found (word signs.Of) room b x1 c1) where
    mode_loci_at_1 : Leads mode_loci_form mode_loci_2 room (λ k. make_mode_loci (x1, k)) b c1
    mode_loci_at_1 = leads_on mode_loci_form mode_loci_1 mode_loci_2 room make_mode_loci (beside (word signs.Of) (λ _. mode_loci_2) x1) b b c1 (begin_mode_loci room b) (leads_behind (word signs.Of) (λ _. mode_loci_2) mode_loci_apart_1 room b c1 x1 h1)

    pub mode_loci_refused_2 : (after : List MarkedToken) (e : Refusal) → Refuses identifiers_form room c1 e after → Refuses mode_loci_form room b e after
    mode_loci_refused_2 after e h = passes mode_loci_form mode_loci_2 room (λ k. make_mode_loci (x1, k)) b c1 after e mode_loci_at_1 h

    pub mode_loci_found : (x2 : (Separated IdentifierTree)) (after : List MarkedToken) → Found identifiers_form room c1 x2 after → Found mode_loci_form room b (make_mode_loci (x1, x2)) after
    mode_loci_found x2 after h = mode_loci_at_1.finds x2 after h

pub symbol_pattern_apart_1 : Apart optional_loci (λ _. symbol_pattern_2)
symbol_pattern_apart_1 = loci_before_functor

pub symbol_pattern_apart_2 : Apart functor_form (λ _. symbol_pattern_3)
symbol_pattern_apart_2 = apart_closed functor_form (λ _. symbol_pattern_3) (λ a t. refl)

abbrev pub make_symbol_pattern : symbol_pattern_1.Tree → SymbolPatternTree
make_symbol_pattern k = record { left = k.0; symbol = k.1.0.0; priority = k.1.0.1; right = k.1.1 }

pub only_symbol_pattern : (x : SymbolPatternTree) → symbol_pattern_form.IsTree x → (k : symbol_pattern_1.Tree) × symbol_pattern_1.IsTree k × (x ≡ make_symbol_pattern k)
only_symbol_pattern x is = ((x.left, ((x.symbol, x.priority), x.right)), (any_loci x.left, (tt, any_loci x.right)), refl)

symbol_pattern_goes : (k : symbol_pattern_1.Tree) (t : MarkedToken) → symbol_pattern_1.goes k t ≡ true → goes_on_pattern (sign_of t) ≡ true
symbol_pattern_goes k t g = or_goes (symbol_pattern_2.goes k.1 t) (optional_loci.goes k.0 t) (is_empty (symbol_pattern_2.spell k.1)) (goes_on_pattern (sign_of t)) (λ h0. or_goes (symbol_pattern_3.goes k.1.1 t) (functor_form.goes k.1.0 t) (is_empty (symbol_pattern_3.spell k.1.1)) (goes_on_pattern (sign_of t)) (λ h1. optional_loci_on k.1.1 t h1) (λ h1. absurd (never h1)) h0) (λ h0. optional_loci_on k.0 t h0) g

pub as_symbol_pattern : (b : List MarkedToken) → Reshapes symbol_pattern_form symbol_pattern_1 make_symbol_pattern b
as_symbol_pattern b = record {
  into = λ k is. tt;
  spells = λ k is. refl;
  only = λ x is g. only_symbol_pattern x is;
  goes = λ k t is g. symbol_pattern_goes k t g;
  level = λ k is. refl;
}

begin_symbol_pattern : (room : ℕ) (b : List MarkedToken) → Leads symbol_pattern_form symbol_pattern_1 room make_symbol_pattern b b
begin_symbol_pattern room b = leads_as symbol_pattern_form symbol_pattern_1 make_symbol_pattern room b (as_symbol_pattern b)

pub symbol_pattern_refused_1 : (room : ℕ) (b after : List MarkedToken) (e : Refusal) → Refuses optional_loci room b e after → Refuses symbol_pattern_form room b e after
symbol_pattern_refused_1 room b after e h = passes symbol_pattern_form symbol_pattern_1 room make_symbol_pattern b b after e (begin_symbol_pattern room b) (first_refuses optional_loci (λ _. symbol_pattern_2) symbol_pattern_apart_1 room b after e (λ a is. ((((word_at nowhere), 0), None), (tt, tt))) h)

module _ (room : ℕ) (b : List MarkedToken) where
  module _ (x1 : (Option LociTree)) (c1 : List MarkedToken) (h1 : Found optional_loci room b x1 c1) where
    symbol_pattern_at_1 : Leads symbol_pattern_form symbol_pattern_2 room (λ k. make_symbol_pattern (x1, k)) b c1
    symbol_pattern_at_1 = leads_on symbol_pattern_form symbol_pattern_1 symbol_pattern_2 room make_symbol_pattern (beside optional_loci (λ _. symbol_pattern_2) x1) b b c1 (begin_symbol_pattern room b) (leads_behind optional_loci (λ _. symbol_pattern_2) symbol_pattern_apart_1 room b c1 x1 h1)

    pub symbol_pattern_refused_2 : (after : List MarkedToken) (e : Refusal) → Refuses functor_form room c1 e after → Refuses symbol_pattern_form room b e after
    symbol_pattern_refused_2 after e h = passes symbol_pattern_form symbol_pattern_2 room (λ k. make_symbol_pattern (x1, k)) b c1 after e symbol_pattern_at_1 (first_refuses functor_form (λ _. symbol_pattern_3) symbol_pattern_apart_2 room c1 after e (λ a is. (None, tt)) h)

    module _ (x2 : (Word × ℕ)) (c2 : List MarkedToken) (h2 : Found functor_form room c1 x2 c2) where
      symbol_pattern_at_2 : Leads symbol_pattern_form symbol_pattern_3 room (λ k. make_symbol_pattern (x1, (x2, k))) b c2
      symbol_pattern_at_2 = leads_on symbol_pattern_form symbol_pattern_2 symbol_pattern_3 room (λ k. make_symbol_pattern (x1, k)) (beside functor_form (λ _. symbol_pattern_3) x2) b c1 c2 symbol_pattern_at_1 (leads_behind functor_form (λ _. symbol_pattern_3) symbol_pattern_apart_2 room c1 c2 x2 h2)

      pub symbol_pattern_refused_3 : (after : List MarkedToken) (e : Refusal) → Refuses optional_loci room c2 e after → Refuses symbol_pattern_form room b e after
      symbol_pattern_refused_3 after e h = passes symbol_pattern_form symbol_pattern_3 room (λ k. make_symbol_pattern (x1, (x2, k))) b c2 after e symbol_pattern_at_2 h

      pub symbol_pattern_found : (x3 : (Option LociTree)) (after : List MarkedToken) → Found optional_loci room c2 x3 after → Found symbol_pattern_form room b (make_symbol_pattern (x1, (x2, x3))) after
      symbol_pattern_found x3 after h = symbol_pattern_at_2.finds x3 after h

pub predicate_pattern_apart_1 : Apart optional_identifiers (λ _. predicate_pattern_2)
predicate_pattern_apart_1 = identifiers_before_predicate

pub predicate_pattern_apart_2 : Apart (name signs.Predicate) (λ _. predicate_pattern_3)
predicate_pattern_apart_2 = apart_closed (name signs.Predicate) (λ _. predicate_pattern_3) (λ a t. refl)

abbrev pub make_predicate_pattern : predicate_pattern_1.Tree → PredicatePatternTree
make_predicate_pattern k = record { left = k.0; symbol = k.1.0; right = k.1.1 }

pub only_predicate_pattern : (x : PredicatePatternTree) → predicate_pattern_form.IsTree x → (k : predicate_pattern_1.Tree) × predicate_pattern_1.IsTree k × (x ≡ make_predicate_pattern k)
only_predicate_pattern x is = ((x.left, (x.symbol, x.right)), (any_identifiers x.left, (tt, any_identifiers x.right)), refl)

predicate_pattern_goes : (k : predicate_pattern_1.Tree) (t : MarkedToken) → predicate_pattern_1.goes k t ≡ true → goes_on_pattern (sign_of t) ≡ true
predicate_pattern_goes k t g = or_goes (predicate_pattern_2.goes k.1 t) (optional_identifiers.goes k.0 t) (is_empty (predicate_pattern_2.spell k.1)) (goes_on_pattern (sign_of t)) (λ h0. or_goes (predicate_pattern_3.goes k.1.1 t) ((name signs.Predicate).goes k.1.0 t) (is_empty (predicate_pattern_3.spell k.1.1)) (goes_on_pattern (sign_of t)) (λ h1. optional_identifiers_on k.1.1 t h1) (λ h1. absurd (never h1)) h0) (λ h0. optional_identifiers_on k.0 t h0) g

pub as_predicate_pattern : (b : List MarkedToken) → Reshapes predicate_pattern_form predicate_pattern_1 make_predicate_pattern b
as_predicate_pattern b = record {
  into = λ k is. tt;
  spells = λ k is. refl;
  only = λ x is g. only_predicate_pattern x is;
  goes = λ k t is g. predicate_pattern_goes k t g;
  level = λ k is. refl;
}

begin_predicate_pattern : (room : ℕ) (b : List MarkedToken) → Leads predicate_pattern_form predicate_pattern_1 room make_predicate_pattern b b
begin_predicate_pattern room b = leads_as predicate_pattern_form predicate_pattern_1 make_predicate_pattern room b (as_predicate_pattern b)

pub predicate_pattern_refused_1 : (room : ℕ) (b after : List MarkedToken) (e : Refusal) → Refuses optional_identifiers room b e after → Refuses predicate_pattern_form room b e after
predicate_pattern_refused_1 room b after e h = passes predicate_pattern_form predicate_pattern_1 room make_predicate_pattern b b after e (begin_predicate_pattern room b) (first_refuses optional_identifiers (λ _. predicate_pattern_2) predicate_pattern_apart_1 room b after e (λ a is. (((word_at nowhere), None), (tt, tt))) h)

module _ (room : ℕ) (b : List MarkedToken) where
  module _ (x1 : (Option (Separated IdentifierTree))) (c1 : List MarkedToken) (h1 : Found optional_identifiers room b x1 c1) where
    predicate_pattern_at_1 : Leads predicate_pattern_form predicate_pattern_2 room (λ k. make_predicate_pattern (x1, k)) b c1
    predicate_pattern_at_1 = leads_on predicate_pattern_form predicate_pattern_1 predicate_pattern_2 room make_predicate_pattern (beside optional_identifiers (λ _. predicate_pattern_2) x1) b b c1 (begin_predicate_pattern room b) (leads_behind optional_identifiers (λ _. predicate_pattern_2) predicate_pattern_apart_1 room b c1 x1 h1)

    pub predicate_pattern_refused_2 : (after : List MarkedToken) (e : Refusal) → Refuses (name signs.Predicate) room c1 e after → Refuses predicate_pattern_form room b e after
    predicate_pattern_refused_2 after e h = passes predicate_pattern_form predicate_pattern_2 room (λ k. make_predicate_pattern (x1, k)) b c1 after e predicate_pattern_at_1 (first_refuses (name signs.Predicate) (λ _. predicate_pattern_3) predicate_pattern_apart_2 room c1 after e (λ a is. (None, tt)) h)

    module _ (x2 : Word) (c2 : List MarkedToken) (h2 : Found (name signs.Predicate) room c1 x2 c2) where
      predicate_pattern_at_2 : Leads predicate_pattern_form predicate_pattern_3 room (λ k. make_predicate_pattern (x1, (x2, k))) b c2
      predicate_pattern_at_2 = leads_on predicate_pattern_form predicate_pattern_2 predicate_pattern_3 room (λ k. make_predicate_pattern (x1, k)) (beside (name signs.Predicate) (λ _. predicate_pattern_3) x2) b c1 c2 predicate_pattern_at_1 (leads_behind (name signs.Predicate) (λ _. predicate_pattern_3) predicate_pattern_apart_2 room c1 c2 x2 h2)

      pub predicate_pattern_refused_3 : (after : List MarkedToken) (e : Refusal) → Refuses optional_identifiers room c2 e after → Refuses predicate_pattern_form room b e after
      predicate_pattern_refused_3 after e h = passes predicate_pattern_form predicate_pattern_3 room (λ k. make_predicate_pattern (x1, (x2, k))) b c2 after e predicate_pattern_at_2 h

      pub predicate_pattern_found : (x3 : (Option (Separated IdentifierTree))) (after : List MarkedToken) → Found optional_identifiers room c2 x3 after → Found predicate_pattern_form room b (make_predicate_pattern (x1, (x2, x3))) after
      predicate_pattern_found x3 after h = predicate_pattern_at_2.finds x3 after h

pub attribute_pattern_apart_1 : Apart (name signs.Identifier) (λ _. attribute_pattern_2)
attribute_pattern_apart_1 = apart_closed (name signs.Identifier) (λ _. attribute_pattern_2) (λ a t. refl)

pub attribute_pattern_apart_2 : Apart (word signs.Is) (λ _. attribute_pattern_3)
attribute_pattern_apart_2 = apart_closed (word signs.Is) (λ _. attribute_pattern_3) (λ a t. refl)

pub attribute_pattern_apart_3 : Apart optional_loci (λ _. attribute_pattern_4)
attribute_pattern_apart_3 = loci_before_attribute

abbrev pub make_attribute_pattern : attribute_pattern_1.Tree → AttributePatternTree
make_attribute_pattern k = record { subject = k.0; is = k.1.0; loci = k.1.1.0; symbol = k.1.1.1 }

pub only_attribute_pattern : (x : AttributePatternTree) → attribute_pattern_form.IsTree x → (k : attribute_pattern_1.Tree) × attribute_pattern_1.IsTree k × (x ≡ make_attribute_pattern k)
only_attribute_pattern x is = ((x.subject, (x.is, (x.loci, x.symbol))), (tt, (tt, (any_loci x.loci, tt))), refl)

attribute_pattern_goes : (k : attribute_pattern_1.Tree) (t : MarkedToken) → attribute_pattern_1.goes k t ≡ true → goes_on_pattern (sign_of t) ≡ true
attribute_pattern_goes k t g = or_goes (attribute_pattern_2.goes k.1 t) ((name signs.Identifier).goes k.0 t) (is_empty (attribute_pattern_2.spell k.1)) (goes_on_pattern (sign_of t)) (λ h0. or_goes (attribute_pattern_3.goes k.1.1 t) ((word signs.Is).goes k.1.0 t) (is_empty (attribute_pattern_3.spell k.1.1)) (goes_on_pattern (sign_of t)) (λ h1. or_goes (attribute_pattern_4.goes k.1.1.1 t) (optional_loci.goes k.1.1.0 t) (is_empty (attribute_pattern_4.spell k.1.1.1)) (goes_on_pattern (sign_of t)) (λ h2. absurd (never h2)) (λ h2. optional_loci_on k.1.1.0 t h2) h1) (λ h1. absurd (never h1)) h0) (λ h0. absurd (never h0)) g

pub as_attribute_pattern : (b : List MarkedToken) → Reshapes attribute_pattern_form attribute_pattern_1 make_attribute_pattern b
as_attribute_pattern b = record {
  into = λ k is. tt;
  spells = λ k is. refl;
  only = λ x is g. only_attribute_pattern x is;
  goes = λ k t is g. attribute_pattern_goes k t g;
  level = λ k is. refl;
}

begin_attribute_pattern : (room : ℕ) (b : List MarkedToken) → Leads attribute_pattern_form attribute_pattern_1 room make_attribute_pattern b b
begin_attribute_pattern room b = leads_as attribute_pattern_form attribute_pattern_1 make_attribute_pattern room b (as_attribute_pattern b)

pub attribute_pattern_refused_1 : (room : ℕ) (b after : List MarkedToken) (e : Refusal) → Refuses (name signs.Identifier) room b e after → Refuses attribute_pattern_form room b e after
attribute_pattern_refused_1 room b after e h = passes attribute_pattern_form attribute_pattern_1 room make_attribute_pattern b b after e (begin_attribute_pattern room b) (first_refuses (name signs.Identifier) (λ _. attribute_pattern_2) attribute_pattern_apart_1 room b after e (λ a is. ((nowhere, (None, (word_at nowhere))), (tt, (tt, tt)))) h)

module _ (room : ℕ) (b : List MarkedToken) where
  module _ (x1 : Word) (c1 : List MarkedToken) (h1 : Found (name signs.Identifier) room b x1 c1) where
    attribute_pattern_at_1 : Leads attribute_pattern_form attribute_pattern_2 room (λ k. make_attribute_pattern (x1, k)) b c1
    attribute_pattern_at_1 = leads_on attribute_pattern_form attribute_pattern_1 attribute_pattern_2 room make_attribute_pattern (beside (name signs.Identifier) (λ _. attribute_pattern_2) x1) b b c1 (begin_attribute_pattern room b) (leads_behind (name signs.Identifier) (λ _. attribute_pattern_2) attribute_pattern_apart_1 room b c1 x1 h1)

    pub attribute_pattern_refused_2 : (after : List MarkedToken) (e : Refusal) → Refuses (word signs.Is) room c1 e after → Refuses attribute_pattern_form room b e after
    attribute_pattern_refused_2 after e h = passes attribute_pattern_form attribute_pattern_2 room (λ k. make_attribute_pattern (x1, k)) b c1 after e attribute_pattern_at_1 (first_refuses (word signs.Is) (λ _. attribute_pattern_3) attribute_pattern_apart_2 room c1 after e (λ a is. ((None, (word_at nowhere)), (tt, tt))) h)

    module _ (x2 : Place) (c2 : List MarkedToken) (h2 : Found (word signs.Is) room c1 x2 c2) where
      attribute_pattern_at_2 : Leads attribute_pattern_form attribute_pattern_3 room (λ k. make_attribute_pattern (x1, (x2, k))) b c2
      attribute_pattern_at_2 = leads_on attribute_pattern_form attribute_pattern_2 attribute_pattern_3 room (λ k. make_attribute_pattern (x1, k)) (beside (word signs.Is) (λ _. attribute_pattern_3) x2) b c1 c2 attribute_pattern_at_1 (leads_behind (word signs.Is) (λ _. attribute_pattern_3) attribute_pattern_apart_2 room c1 c2 x2 h2)

      pub attribute_pattern_refused_3 : (after : List MarkedToken) (e : Refusal) → Refuses optional_loci room c2 e after → Refuses attribute_pattern_form room b e after
      attribute_pattern_refused_3 after e h = passes attribute_pattern_form attribute_pattern_3 room (λ k. make_attribute_pattern (x1, (x2, k))) b c2 after e attribute_pattern_at_2 (first_refuses optional_loci (λ _. attribute_pattern_4) attribute_pattern_apart_3 room c2 after e (λ a is. ((word_at nowhere), tt)) h)

      module _ (x3 : (Option LociTree)) (c3 : List MarkedToken) (h3 : Found optional_loci room c2 x3 c3) where
        attribute_pattern_at_3 : Leads attribute_pattern_form attribute_pattern_4 room (λ k. make_attribute_pattern (x1, (x2, (x3, k)))) b c3
        attribute_pattern_at_3 = leads_on attribute_pattern_form attribute_pattern_3 attribute_pattern_4 room (λ k. make_attribute_pattern (x1, (x2, k))) (beside optional_loci (λ _. attribute_pattern_4) x3) b c2 c3 attribute_pattern_at_2 (leads_behind optional_loci (λ _. attribute_pattern_4) attribute_pattern_apart_3 room c2 c3 x3 h3)

        pub attribute_pattern_refused_4 : (after : List MarkedToken) (e : Refusal) → Refuses (name signs.Attribute) room c3 e after → Refuses attribute_pattern_form room b e after
        attribute_pattern_refused_4 after e h = passes attribute_pattern_form attribute_pattern_4 room (λ k. make_attribute_pattern (x1, (x2, (x3, k)))) b c3 after e attribute_pattern_at_3 h

        pub attribute_pattern_found : (x4 : Word) (after : List MarkedToken) → Found (name signs.Attribute) room c3 x4 after → Found attribute_pattern_form room b (make_attribute_pattern (x1, (x2, (x3, x4)))) after
        attribute_pattern_found x4 after h = attribute_pattern_at_3.finds x4 after h

pub mode_pattern_apart_1 : Apart (name signs.Mode) (λ _. mode_pattern_2)
mode_pattern_apart_1 = apart_closed (name signs.Mode) (λ _. mode_pattern_2) (λ a t. refl)

abbrev pub make_mode_pattern : mode_pattern_1.Tree → ModePatternTree
make_mode_pattern k = record { symbol = k.0; loci = k.1 }

pub only_mode_pattern : (x : ModePatternTree) → mode_pattern_form.IsTree x → (k : mode_pattern_1.Tree) × mode_pattern_1.IsTree k × (x ≡ make_mode_pattern k)
only_mode_pattern x is = ((x.symbol, x.loci), (tt, any_mode_loci x.loci), refl)

mode_pattern_goes : (k : mode_pattern_1.Tree) (t : MarkedToken) → mode_pattern_1.goes k t ≡ true → goes_on_pattern (sign_of t) ≡ true
mode_pattern_goes k t g = or_goes (mode_pattern_2.goes k.1 t) ((name signs.Mode).goes k.0 t) (is_empty (mode_pattern_2.spell k.1)) (goes_on_pattern (sign_of t)) (λ h0. optional_mode_loci_on k.1 t h0) (λ h0. absurd (never h0)) g

pub as_mode_pattern : (b : List MarkedToken) → Reshapes mode_pattern_form mode_pattern_1 make_mode_pattern b
as_mode_pattern b = record {
  into = λ k is. tt;
  spells = λ k is. refl;
  only = λ x is g. only_mode_pattern x is;
  goes = λ k t is g. mode_pattern_goes k t g;
  level = λ k is. refl;
}

begin_mode_pattern : (room : ℕ) (b : List MarkedToken) → Leads mode_pattern_form mode_pattern_1 room make_mode_pattern b b
begin_mode_pattern room b = leads_as mode_pattern_form mode_pattern_1 make_mode_pattern room b (as_mode_pattern b)

pub mode_pattern_refused_1 : (room : ℕ) (b after : List MarkedToken) (e : Refusal) → Refuses (name signs.Mode) room b e after → Refuses mode_pattern_form room b e after
mode_pattern_refused_1 room b after e h = passes mode_pattern_form mode_pattern_1 room make_mode_pattern b b after e (begin_mode_pattern room b) (first_refuses (name signs.Mode) (λ _. mode_pattern_2) mode_pattern_apart_1 room b after e (λ a is. (None, tt)) h)

module _ (room : ℕ) (b : List MarkedToken) where
  module _ (x1 : Word) (c1 : List MarkedToken) (h1 : Found (name signs.Mode) room b x1 c1) where
    mode_pattern_at_1 : Leads mode_pattern_form mode_pattern_2 room (λ k. make_mode_pattern (x1, k)) b c1
    mode_pattern_at_1 = leads_on mode_pattern_form mode_pattern_1 mode_pattern_2 room make_mode_pattern (beside (name signs.Mode) (λ _. mode_pattern_2) x1) b b c1 (begin_mode_pattern room b) (leads_behind (name signs.Mode) (λ _. mode_pattern_2) mode_pattern_apart_1 room b c1 x1 h1)

    pub mode_pattern_refused_2 : (after : List MarkedToken) (e : Refusal) → Refuses optional_mode_loci room c1 e after → Refuses mode_pattern_form room b e after
    mode_pattern_refused_2 after e h = passes mode_pattern_form mode_pattern_2 room (λ k. make_mode_pattern (x1, k)) b c1 after e mode_pattern_at_1 h

    pub mode_pattern_found : (x2 : (Option ModeLociTree)) (after : List MarkedToken) → Found optional_mode_loci room c1 x2 after → Found mode_pattern_form room b (make_mode_pattern (x1, x2)) after
    mode_pattern_found x2 after h = mode_pattern_at_1.finds x2 after h
