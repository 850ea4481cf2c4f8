-- The readings of labels, of `means` and of `equals`.
use Rattle.std.specs.Prelude.{codes}
use Rattle.std.proofs.Common.{◌≡◌, ℕ, true, false, List, refl, ap, ◌∙◌, Option, Some, None}
use Rattle.mz_base.specs.declared.token.MarkedToken.{MarkedToken}
use Rattle.mz_forms.specs.declared.refusal.Refusal.{Refusal}
use Rattle.mz_forms.specs.Form.{Form, Found, Leads, is_empty, then}
use Rattle.mz_forms.specs.Reading.{Refuses}
use Rattle.mz_forms.proofs.Choose.{Reshapes}
use Rattle.mz_forms.proofs.Compose.{Apart}
use Rattle.mz_forms.proofs.Leads.{leads_as, apart_closed, passes}
use Rattle.mz_tree_heading.specs.declared.meaning.CasesTree.TheVariants as cases_tree
use Rattle.mz_tree_heading.specs.declared.meaning.DefinitionLabelTree.{DefinitionLabelTree}
use Rattle.mz_tree_heading.specs.declared.meaning.MeaningTree.TheVariants as meaning_tree
use Rattle.mz_pterm.specs.declared.sign.Sign.TheVariants as signs
use Rattle.mz_pterm.specs.Sign.{sign_of}
use Rattle.mz_pterm.specs.Words.{name}
use Rattle.mz_pterm.proofs.Bases.{word_at}
use Rattle.mz_ptype.proofs.Optional.{never}
use Rattle.mz_pjustification.specs.declared.keyword.Keyword.TheVariants as keywords
use Rattle.mz_pjustification.specs.Words.{keyword}
use Rattle.mz_pjustification.proofs.Keywords.{sign_of-key, told_key}
use Rattle.mz_pjustification.proofs.Taken.{nowhere, or_goes}
use Rattle.mz_pstep.proofs.Ends.{Ends, ends_key, ends_then}
use Rattle.mz_ppattern.specs.Words.{word_form}
use Rattle.mz_ppattern.proofs.Sets.{apart_off}
use Rattle.mz_pjustification.specs.declared.keyword.Keyword.{Keyword}
use Rattle.mz_pjustification.specs.Keyword.{keyword_of}
use Rattle.mz_pjustification.specs.Forms.{is_colon}
use Rattle.mz_pmeaning.specs.Classes.{begins_label, goes_on_meaning}
use Rattle.mz_pmeaning.specs.CaseForms.{cases_form, formula_body, term_body}
use Rattle.mz_pmeaning.specs.MeaningForms.{definition_label_form, equals_form, means_form, optional_label}
use Rattle.mz_pmeaning.proofs.Bodies.{IsBody, formula_is_body, term_is_body}
use Rattle.mz_pmeaning.proofs.CaseSteps.{cases_first, cases_some}
use Rattle.mz_pmeaning.proofs.Steps.{next, stopped, or_next}

-- Examples.
any_label : (o : Option DefinitionLabelTree) → optional_label.IsTree o
any_label None = tt
any_label (Some l) = tt

-- No body begins with a colon.
pub colon_is : (k : Keyword) → is_colon k ≡ true → k ≡ keywords.Colon
colon_is keywords.Colon e = refl
colon_is _ e = cc

label_on : (o : Option DefinitionLabelTree) (t : MarkedToken) → optional_label.goes o t ≡ true → begins_label t ≡ true
label_on None t g = g
label_on (Some l) t g = absurd (never g)

colon_signed : (t : MarkedToken) → begins_label t ≡ true → sign_of t ≡ signs.Other
colon_signed t g = ap sign_of (told_key keywords.Colon t refl (colon_is (keyword_of t) g)) ∙ sign_of-key keywords.Colon t.token.place refl

pub label_apart : (B : Form MarkedToken) → IsBody B → Apart optional_label (λ _. cases_form B)
label_apart B body = apart_off optional_label (cases_form B) begins_label (λ a t is g. label_on a t g) (λ x t m is e g. cases_first B body x t m is e (colon_signed t g))

-- label
abbrev pub label_3 : Form MarkedToken
label_3 = (keyword keywords.Colon)

abbrev pub label_2 : Form MarkedToken
label_2 = then (name signs.Identifier) (λ _. label_3)

abbrev pub label_1 : Form MarkedToken
label_1 = then (keyword keywords.Colon) (λ _. label_2)

pub label_apart_1 : Apart (keyword keywords.Colon) (λ _. label_2)
label_apart_1 = apart_closed (keyword keywords.Colon) (λ _. label_2) (λ a t. refl)

pub label_apart_2 : Apart (name signs.Identifier) (λ _. label_3)
label_apart_2 = apart_closed (name signs.Identifier) (λ _. label_3) (λ a t. refl)

abbrev pub make_label : label_1.Tree → definition_label_form.Tree
make_label k = record { left = k.0; name = k.1.0; right = k.1.1 }

pub only_label : (x : definition_label_form.Tree) → definition_label_form.IsTree x → (k : label_1.Tree) × label_1.IsTree k × (x ≡ make_label k)
only_label x is = ((x.left, (x.name, x.right)), (tt, (tt, tt)), refl)

ends_label : Ends label_1
ends_label = ends_then (keyword keywords.Colon) (λ _. label_2) (λ _. (ends_then (name signs.Identifier) (λ _. label_3) (λ _. (ends_key keywords.Colon))))

pub as_label : (b : List MarkedToken) → Reshapes definition_label_form label_1 make_label b
as_label b = record {
  into = λ k is. tt;
  spells = λ k is. refl;
  only = λ x is g. only_label x is;
  goes = λ k t is g. absurd (ends_label.closed k t is g);
  level = λ k is. refl;
}

begin_label : (room : ℕ) (b : List MarkedToken) → Leads definition_label_form label_1 room make_label b b
begin_label room b = leads_as definition_label_form label_1 make_label room b (as_label b)

pub label_refused_1 : (room : ℕ) (b after : List MarkedToken) (e : Refusal) → Refuses (keyword keywords.Colon) room b e after → Refuses definition_label_form room b e after
label_refused_1 room b after e h = stopped definition_label_form (keyword keywords.Colon) (λ _. label_2) label_apart_1 room b b make_label (begin_label room b) after e (λ a is. (((word_at nowhere), nowhere), (tt, tt))) h

module _ (room : ℕ) (b : List MarkedToken) where
  module _ (x1 : (keyword keywords.Colon).Tree) (c1 : List MarkedToken) (h1 : Found (keyword keywords.Colon) room b x1 c1) where
    label_at_1 : Leads definition_label_form label_2 room (λ k. make_label (x1, k)) b c1
    label_at_1 = next definition_label_form (keyword keywords.Colon) (λ _. label_2) label_apart_1 room b b make_label (begin_label room b) x1 c1 h1

    pub label_refused_2 : (after : List MarkedToken) (e : Refusal) → Refuses (name signs.Identifier) room c1 e after → Refuses definition_label_form room b e after
    label_refused_2 after e h = stopped definition_label_form (name signs.Identifier) (λ _. label_3) label_apart_2 room b c1 (λ k. make_label (x1, k)) label_at_1 after e (λ a is. (nowhere, tt)) h

    module _ (x2 : (name signs.Identifier).Tree) (c2 : List MarkedToken) (h2 : Found (name signs.Identifier) room c1 x2 c2) where
      label_at_2 : Leads definition_label_form label_3 room (λ k. make_label (x1, (x2, k))) b c2
      label_at_2 = next definition_label_form (name signs.Identifier) (λ _. label_3) label_apart_2 room b c1 (λ k. make_label (x1, k)) label_at_1 x2 c2 h2

      pub label_refused_3 : (after : List MarkedToken) (e : Refusal) → Refuses (keyword keywords.Colon) room c2 e after → Refuses definition_label_form room b e after
      label_refused_3 after e h = passes definition_label_form label_3 room (λ k. make_label (x1, (x2, k))) b c2 after e label_at_2 h

      pub label_found : (x3 : (keyword keywords.Colon).Tree) (after : List MarkedToken) → Found (keyword keywords.Colon) room c2 x3 after → Found definition_label_form room b (make_label (x1, (x2, x3))) after
      label_found x3 after h = label_at_2.finds x3 after h

-- stated_means
abbrev pub stated_means_3 : Form MarkedToken
stated_means_3 = (cases_form formula_body)

abbrev pub stated_means_2 : Form MarkedToken
stated_means_2 = then optional_label (λ _. stated_means_3)

abbrev pub stated_means_1 : Form MarkedToken
stated_means_1 = then (keyword keywords.Means) (λ _. stated_means_2)

pub stated_means_apart_1 : Apart (keyword keywords.Means) (λ _. stated_means_2)
stated_means_apart_1 = apart_closed (keyword keywords.Means) (λ _. stated_means_2) (λ a t. refl)

pub stated_means_apart_2 : Apart optional_label (λ _. stated_means_3)
stated_means_apart_2 = label_apart formula_body formula_is_body

abbrev pub make_stated_means : stated_means_1.Tree → means_form.Tree
make_stated_means k = meaning_tree.Means k.0 k.1.0 k.1.1

pub only_stated_means : (x : means_form.Tree) → means_form.IsTree x → (k : stated_means_1.Tree) × stated_means_1.IsTree k × (x ≡ make_stated_means k)
only_stated_means (meaning_tree.Means p l a) is = ((p, (l, a)), (tt, (any_label l, is)), refl)
only_stated_means (meaning_tree.Equals p l a) is = absurd is

pub as_stated_means : (b : List MarkedToken) → Reshapes means_form stated_means_1 make_stated_means b
as_stated_means b = record {
  into = λ k is. is.1.1;
  spells = λ k is. refl;
  only = λ x is g. only_stated_means x is;
  goes = λ k t is g. or_next (goes_on_meaning t) (optional_label.goes k.1.0 t) (is_empty ((cases_form formula_body).spell k.1.1)) (cases_some formula_body formula_is_body k.1.1 is.1.1) (or_goes (stated_means_2.goes k.1 t) false (is_empty (stated_means_2.spell k.1)) (stated_means_2.goes k.1 t) (λ h. h) (λ h. absurd (never h)) g);
  level = λ k is. refl;
}

begin_stated_means : (room : ℕ) (b : List MarkedToken) → Leads means_form stated_means_1 room make_stated_means b b
begin_stated_means room b = leads_as means_form stated_means_1 make_stated_means room b (as_stated_means b)

pub stated_means_refused_1 : (room : ℕ) (b after : List MarkedToken) (e : Refusal) → Refuses (keyword keywords.Means) room b e after → Refuses means_form room b e after
stated_means_refused_1 room b after e h = stopped means_form (keyword keywords.Means) (λ _. stated_means_2) stated_means_apart_1 room b b make_stated_means (begin_stated_means room b) after e (λ a is. ((None, (cases_tree.Plain formula_is_body.some)), (tt, formula_is_body.some_is))) h

module _ (room : ℕ) (b : List MarkedToken) where
  module _ (x1 : (keyword keywords.Means).Tree) (c1 : List MarkedToken) (h1 : Found (keyword keywords.Means) room b x1 c1) where
    stated_means_at_1 : Leads means_form stated_means_2 room (λ k. make_stated_means (x1, k)) b c1
    stated_means_at_1 = next means_form (keyword keywords.Means) (λ _. stated_means_2) stated_means_apart_1 room b b make_stated_means (begin_stated_means room b) x1 c1 h1

    pub stated_means_refused_2 : (after : List MarkedToken) (e : Refusal) → Refuses optional_label room c1 e after → Refuses means_form room b e after
    stated_means_refused_2 after e h = stopped means_form optional_label (λ _. stated_means_3) stated_means_apart_2 room b c1 (λ k. make_stated_means (x1, k)) stated_means_at_1 after e (λ a is. ((cases_tree.Plain formula_is_body.some), formula_is_body.some_is)) h

    module _ (x2 : optional_label.Tree) (c2 : List MarkedToken) (h2 : Found optional_label room c1 x2 c2) where
      stated_means_at_2 : Leads means_form stated_means_3 room (λ k. make_stated_means (x1, (x2, k))) b c2
      stated_means_at_2 = next means_form optional_label (λ _. stated_means_3) stated_means_apart_2 room b c1 (λ k. make_stated_means (x1, k)) stated_means_at_1 x2 c2 h2

      pub stated_means_refused_3 : (after : List MarkedToken) (e : Refusal) → Refuses (cases_form formula_body) room c2 e after → Refuses means_form room b e after
      stated_means_refused_3 after e h = passes means_form stated_means_3 room (λ k. make_stated_means (x1, (x2, k))) b c2 after e stated_means_at_2 h

      pub stated_means_found : (x3 : (cases_form formula_body).Tree) (after : List MarkedToken) → Found (cases_form formula_body) room c2 x3 after → Found means_form room b (make_stated_means (x1, (x2, x3))) after
      stated_means_found x3 after h = stated_means_at_2.finds x3 after h

-- stated_equals
abbrev pub stated_equals_3 : Form MarkedToken
stated_equals_3 = (cases_form term_body)

abbrev pub stated_equals_2 : Form MarkedToken
stated_equals_2 = then optional_label (λ _. stated_equals_3)

abbrev pub stated_equals_1 : Form MarkedToken
stated_equals_1 = then (word_form (codes "equals")) (λ _. stated_equals_2)

pub stated_equals_apart_1 : Apart (word_form (codes "equals")) (λ _. stated_equals_2)
stated_equals_apart_1 = apart_closed (word_form (codes "equals")) (λ _. stated_equals_2) (λ a t. refl)

pub stated_equals_apart_2 : Apart optional_label (λ _. stated_equals_3)
stated_equals_apart_2 = label_apart term_body term_is_body

abbrev pub make_stated_equals : stated_equals_1.Tree → equals_form.Tree
make_stated_equals k = meaning_tree.Equals k.0 k.1.0 k.1.1

pub only_stated_equals : (x : equals_form.Tree) → equals_form.IsTree x → (k : stated_equals_1.Tree) × stated_equals_1.IsTree k × (x ≡ make_stated_equals k)
only_stated_equals (meaning_tree.Equals p l a) is = ((p, (l, a)), (tt, (any_label l, is)), refl)
only_stated_equals (meaning_tree.Means p l a) is = absurd is

pub as_stated_equals : (b : List MarkedToken) → Reshapes equals_form stated_equals_1 make_stated_equals b
as_stated_equals b = record {
  into = λ k is. is.1.1;
  spells = λ k is. refl;
  only = λ x is g. only_stated_equals x is;
  goes = λ k t is g. or_next (goes_on_meaning t) (optional_label.goes k.1.0 t) (is_empty ((cases_form term_body).spell k.1.1)) (cases_some term_body term_is_body k.1.1 is.1.1) (or_goes (stated_equals_2.goes k.1 t) false (is_empty (stated_equals_2.spell k.1)) (stated_equals_2.goes k.1 t) (λ h. h) (λ h. absurd (never h)) g);
  level = λ k is. refl;
}

begin_stated_equals : (room : ℕ) (b : List MarkedToken) → Leads equals_form stated_equals_1 room make_stated_equals b b
begin_stated_equals room b = leads_as equals_form stated_equals_1 make_stated_equals room b (as_stated_equals b)

pub stated_equals_refused_1 : (room : ℕ) (b after : List MarkedToken) (e : Refusal) → Refuses (word_form (codes "equals")) room b e after → Refuses equals_form room b e after
stated_equals_refused_1 room b after e h = stopped equals_form (word_form (codes "equals")) (λ _. stated_equals_2) stated_equals_apart_1 room b b make_stated_equals (begin_stated_equals room b) after e (λ a is. ((None, (cases_tree.Plain term_is_body.some)), (tt, term_is_body.some_is))) h

module _ (room : ℕ) (b : List MarkedToken) where
  module _ (x1 : (word_form (codes "equals")).Tree) (c1 : List MarkedToken) (h1 : Found (word_form (codes "equals")) room b x1 c1) where
    stated_equals_at_1 : Leads equals_form stated_equals_2 room (λ k. make_stated_equals (x1, k)) b c1
    stated_equals_at_1 = next equals_form (word_form (codes "equals")) (λ _. stated_equals_2) stated_equals_apart_1 room b b make_stated_equals (begin_stated_equals room b) x1 c1 h1

    pub stated_equals_refused_2 : (after : List MarkedToken) (e : Refusal) → Refuses optional_label room c1 e after → Refuses equals_form room b e after
    stated_equals_refused_2 after e h = stopped equals_form optional_label (λ _. stated_equals_3) stated_equals_apart_2 room b c1 (λ k. make_stated_equals (x1, k)) stated_equals_at_1 after e (λ a is. ((cases_tree.Plain term_is_body.some), term_is_body.some_is)) h

    module _ (x2 : optional_label.Tree) (c2 : List MarkedToken) (h2 : Found optional_label room c1 x2 c2) where
      stated_equals_at_2 : Leads equals_form stated_equals_3 room (λ k. make_stated_equals (x1, (x2, k))) b c2
      stated_equals_at_2 = next equals_form optional_label (λ _. stated_equals_3) stated_equals_apart_2 room b c1 (λ k. make_stated_equals (x1, k)) stated_equals_at_1 x2 c2 h2

      pub stated_equals_refused_3 : (after : List MarkedToken) (e : Refusal) → Refuses (cases_form term_body) room c2 e after → Refuses equals_form room b e after
      stated_equals_refused_3 after e h = passes equals_form stated_equals_3 room (λ k. make_stated_equals (x1, (x2, k))) b c2 after e stated_equals_at_2 h

      pub stated_equals_found : (x3 : (cases_form term_body).Tree) (after : List MarkedToken) → Found (cases_form term_body) room c2 x3 after → Found equals_form room b (make_stated_equals (x1, (x2, x3))) after
      stated_equals_found x3 after h = stated_equals_at_2.finds x3 after h
