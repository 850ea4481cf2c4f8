-- The readings of structures and their parts, one behind another.
use Rattle.std.specs.Prelude.{codes}
use Rattle.std.proofs.Common.{◌≡◌, ℕ, suc, Bool, true, false, ◌||◌, ◌&&◌, List, [], ◌∷◌, ◌++◌, map, refl, sym, ap, ◌∙◌, append_assoc, Option, Some, None}
use Rattle.std.proofs.lemmas.Bool.{or_left, or_right}
use Rattle.mz_base.specs.declared.place.Place.{Place}
use Rattle.mz_base.specs.declared.token.MarkedToken.{MarkedToken}
use Rattle.mz_forms.specs.declared.refusal.Refusal.{Refusal}
use Rattle.mz_forms.specs.Form.{Form, Found, Leads, is_empty, then, nested}
use Rattle.mz_forms.specs.Reading.{Refuses}
use Rattle.mz_forms.proofs.Choose.{Reshapes}
use Rattle.mz_forms.proofs.Compose.{Apart, head_of}
use Rattle.mz_forms.proofs.Leads.{leads_as, leads_behind, leads_on, beside, apart_closed, passes, first_refuses}
use Rattle.mz_forms.proofs.Lists.{Begun}
use Rattle.mz_forms.proofs.Maybe.{Starts}
use Rattle.mz_tree.specs.declared.word.Word.{Word}
use Rattle.mz_tree.specs.declared.lists.Separated.{Separated}
use Rattle.mz_tree.specs.Trees.{TypeData, ModeType, no_adjectives}
use Rattle.mz_tree_heading.specs.declared.patterns.IdentifierTree.{IdentifierTree}
use Rattle.mz_tree_heading.specs.declared.structure.SelectorTree.{SelectorTree}
use Rattle.mz_tree_heading.specs.declared.structure.FieldTree.{FieldTree}
use Rattle.mz_tree_heading.specs.declared.structure.AncestorsTree.{AncestorsTree}
use Rattle.mz_tree_heading.specs.declared.structure.StructureLociTree.{StructureLociTree}
use Rattle.mz_tree_heading.specs.declared.structure.StructureTree.{StructureTree}
use Rattle.mz_pterm.specs.declared.sign.Sign.{Sign}
use Rattle.mz_pterm.specs.declared.sign.Sign.TheVariants as signs
use Rattle.mz_pterm.specs.Classes.{is_open}
use Rattle.mz_pterm.specs.Sign.{sign_of}
use Rattle.mz_pterm.specs.Words.{fixed, named, word, name}
use Rattle.mz_pterm.proofs.Bases.{word_at}
use Rattle.mz_pterm.proofs.Signs.{sign_of-fixed, sign_of-named, told_fixed}
use Rattle.mz_ptype.specs.Classes.{is_over}
use Rattle.mz_ptype.specs.Forms.{whole_type, goes_type, goes_on_declared}
use Rattle.mz_ptype.proofs.Optional.{never}
use Rattle.mz_pjustification.specs.declared.keyword.Keyword.TheVariants as keywords
use Rattle.mz_pjustification.specs.Words.{key, keyword}
use Rattle.mz_pjustification.proofs.Taken.{nowhere, or_goes}
use Rattle.mz_pstep.specs.Forms.{types_form}
use Rattle.mz_pstep.proofs.Closings.{types_apart}
use Rattle.mz_pstep.proofs.Ends.{Ends, ends_class, ends_then}
use Rattle.mz_ppattern.specs.Words.{arrow_form, arrow_token, word_token, word_form}
use Rattle.mz_ppattern.specs.Classes.{goes_on_names}
use Rattle.mz_ppattern.specs.Forms.{identifiers_form, selectors_form}
use Rattle.mz_ppattern.proofs.WordSteps.{arrow_signed}
use Rattle.mz_ppattern.proofs.NameSteps.{make_selector, any_names}
use Rattle.mz_ppattern.proofs.SymbolSteps.{some_names}
use Rattle.mz_ppattern.proofs.Sets.{apart_off, off_one_then, off_nested_then}
use Rattle.mz_ppart.specs.Classes.{begins_ancestors, begins_structure_loci}
use Rattle.mz_ppart.specs.StructureForms.{field_form, fields_form, ancestors_form, optional_ancestors, structure_loci_form, optional_structure_loci, structure_form}

-- Examples.
abbrev some_type : TypeData
some_type = ModeType no_adjectives (word_at nowhere)

abbrev some_selectors : Separated SelectorTree
some_selectors = record { first = make_selector (word_at nowhere); more = [] }

abbrev some_types : Separated TypeData
some_types = record { first = some_type; more = [] }

abbrev some_fields : Separated FieldTree
some_fields = record { first = record { selectors = some_selectors; arrow = nowhere; ty = some_type }; more = [] }

-- Sets.
abbrev on_names : MarkedToken → Bool
on_names t = goes_on_names (sign_of t)

names_off_arrow : (p : Place) → on_names (arrow_token p) ≡ true → ⊥
names_off_arrow p g = never (sym (ap goes_on_names (arrow_signed p)) ∙ g)

ancestors_begun : (o : Option AncestorsTree) (t : MarkedToken) → optional_ancestors.goes o t ≡ true → begins_ancestors t ≡ true
ancestors_begun None t g = g
ancestors_begun (Some x) t g = absurd (never g)

abbrev loci_or : MarkedToken → Bool
loci_or t = is_over (sign_of t) || goes_on_names (sign_of t)

structure_loci_on : (o : Option StructureLociTree) (t : MarkedToken) → optional_structure_loci.goes o t ≡ true → loci_or t ≡ true
structure_loci_on None t g = or_left (is_over (sign_of t)) (goes_on_names (sign_of t)) g
structure_loci_on (Some x) t g = or_right (is_over (sign_of t)) (goes_on_names (sign_of t)) g

loci_off_aggregate : (p : Place) → loci_or (fixed signs.OpenAggregate p) ≡ true → ⊥
loci_off_aggregate p g = never (sym (ap (λ s. is_over s || goes_on_names s) (sign_of-fixed signs.OpenAggregate p refl)) ∙ g)

pub any_structure_loci : (o : Option StructureLociTree) → optional_structure_loci.IsTree o
any_structure_loci None = tt
any_structure_loci (Some x) = tt

-- field
abbrev pub field_3 : Form MarkedToken
field_3 = whole_type true

abbrev pub field_2 : Form MarkedToken
field_2 = then arrow_form (λ _. field_3)

abbrev pub field_1 : Form MarkedToken
field_1 = then selectors_form (λ _. field_2)

-- ancestors
abbrev pub ancestors_3 : Form MarkedToken
ancestors_3 = word signs.Close

abbrev pub ancestors_2 : Form MarkedToken
ancestors_2 = then (nested types_form) (λ _. ancestors_3)

abbrev pub ancestors_1 : Form MarkedToken
ancestors_1 = then (nested (word signs.Open)) (λ _. ancestors_2)

-- structure_loci
abbrev pub structure_loci_2 : Form MarkedToken
structure_loci_2 = identifiers_form

abbrev pub structure_loci_1 : Form MarkedToken
structure_loci_1 = then (word signs.Over) (λ _. structure_loci_2)

-- structure
abbrev pub structure_8 : Form MarkedToken
structure_8 = keyword keywords.Semicolon

abbrev pub structure_7 : Form MarkedToken
structure_7 = then (word signs.CloseAggregate) (λ _. structure_8)

abbrev pub structure_6 : Form MarkedToken
structure_6 = then (nested fields_form) (λ _. structure_7)

abbrev pub structure_5 : Form MarkedToken
structure_5 = then (nested (word signs.OpenAggregate)) (λ _. structure_6)

abbrev pub structure_4 : Form MarkedToken
structure_4 = then optional_structure_loci (λ _. structure_5)

abbrev pub structure_3 : Form MarkedToken
structure_3 = then (name signs.Structure) (λ _. structure_4)

abbrev pub structure_2 : Form MarkedToken
structure_2 = then optional_ancestors (λ _. structure_3)

abbrev pub structure_1 : Form MarkedToken
structure_1 = then (word_form (codes "struct")) (λ _. structure_2)

fields_apart : Apart (nested fields_form) (λ _. structure_7)
fields_apart = apart_off (nested fields_form) structure_7 (λ t. goes_on_declared (sign_of t)) (λ a t is g. g) (off_one_then (λ t. goes_on_declared (sign_of t)) (fixed signs.CloseAggregate) (λ _. structure_8) (λ p g. never (sym (ap goes_on_declared (sign_of-fixed signs.CloseAggregate p refl)) ∙ g)))

-- what goes on a form behind a token is what goes on the form
or_next : (p q r : Bool) → r ≡ false → (p || (r && q)) ≡ true → p ≡ true
or_next true q r h g = refl
or_next false q true h g = cc
or_next false q false h g = cc

-- parts append-grouped to the left, and to the right
pub append-grouped : {X : Type 0} (a b c d : List X) → ((a ++ b) ++ c) ++ d ≡ a ++ (b ++ (c ++ d))
append-grouped a b c d = append_assoc (a ++ b) c d ∙ append_assoc a b (c ++ d)

pub field_apart_1 : Apart selectors_form (λ _. field_2)
field_apart_1 = apart_off selectors_form field_2 on_names (λ a t is g. g) (off_one_then on_names arrow_token (λ _. field_3) (λ p g. names_off_arrow p g))

pub field_apart_2 : Apart arrow_form (λ _. field_3)
field_apart_2 = apart_closed arrow_form (λ _. field_3) (λ a t. refl)

abbrev pub make_field : field_1.Tree → FieldTree
make_field k = record { selectors = k.0; arrow = k.1.0; ty = k.1.1 }

pub only_field : (x : FieldTree) → field_form.IsTree x → (k : field_1.Tree) × field_1.IsTree k × (x ≡ make_field k)
only_field x is = ((x.selectors, (x.arrow, x.ty)), (any_names x.selectors, (tt, is)), refl)

field_goes : (k : field_1.Tree) (t : MarkedToken) → field_1.goes k t ≡ true → goes_type k.1.1 (sign_of t) ≡ true
field_goes k t g = or_goes (field_3.goes k.1.1 t) (arrow_form.goes k.1.0 t) (is_empty (field_3.spell k.1.1)) (goes_type k.1.1 (sign_of t)) (λ h1. h1) (λ h1. absurd (never h1)) (or_next (field_2.goes k.1 t) (selectors_form.goes k.0 t) (is_empty (field_2.spell k.1)) refl g)

pub as_field : (b : List MarkedToken) → Reshapes field_form field_1 make_field b
as_field b = record {
  into = λ k is. is.1.1;
  spells = λ k is. refl;
  only = λ x is g. only_field x is;
  goes = λ k t is g. field_goes k t g;
  level = λ k is. refl;
}

begin_field : (room : ℕ) (b : List MarkedToken) → Leads field_form field_1 room make_field b b
begin_field room b = leads_as field_form field_1 make_field room b (as_field b)

pub field_refused_1 : (room : ℕ) (b after : List MarkedToken) (e : Refusal) → Refuses selectors_form room b e after → Refuses field_form room b e after
field_refused_1 room b after e h = passes field_form field_1 room make_field b b after e (begin_field room b) (first_refuses selectors_form (λ _. field_2) field_apart_1 room b after e (λ a is. ((nowhere, some_type), (tt, tt))) h)

module _ (room : ℕ) (b : List MarkedToken) where
  module _ (x1 : (Separated SelectorTree)) (c1 : List MarkedToken) (h1 : Found selectors_form room b x1 c1) where
    field_at_1 : Leads field_form field_2 room (λ k. make_field (x1, k)) b c1
    field_at_1 = leads_on field_form field_1 field_2 room make_field (beside selectors_form (λ _. field_2) x1) b b c1 (begin_field room b) (leads_behind selectors_form (λ _. field_2) field_apart_1 room b c1 x1 h1)

    pub field_refused_2 : (after : List MarkedToken) (e : Refusal) → Refuses arrow_form room c1 e after → Refuses field_form room b e after
    field_refused_2 after e h = passes field_form field_2 room (λ k. make_field (x1, k)) b c1 after e field_at_1 (first_refuses arrow_form (λ _. field_3) field_apart_2 room c1 after e (λ a is. (some_type, tt)) h)

    module _ (x2 : Place) (c2 : List MarkedToken) (h2 : Found arrow_form room c1 x2 c2) where
      field_at_2 : Leads field_form field_3 room (λ k. make_field (x1, (x2, k))) b c2
      field_at_2 = leads_on field_form field_2 field_3 room (λ k. make_field (x1, k)) (beside arrow_form (λ _. field_3) x2) b c1 c2 field_at_1 (leads_behind arrow_form (λ _. field_3) field_apart_2 room c1 c2 x2 h2)

      pub field_refused_3 : (after : List MarkedToken) (e : Refusal) → Refuses (whole_type true) room c2 e after → Refuses field_form room b e after
      field_refused_3 after e h = passes field_form field_3 room (λ k. make_field (x1, (x2, k))) b c2 after e field_at_2 h

      pub field_found : (x3 : TypeData) (after : List MarkedToken) → Found (whole_type true) room c2 x3 after → Found field_form room b (make_field (x1, (x2, x3))) after
      field_found x3 after h = field_at_2.finds x3 after h

pub ancestors_apart_1 : Apart (nested (word signs.Open)) (λ _. ancestors_2)
ancestors_apart_1 = apart_closed (nested (word signs.Open)) (λ _. ancestors_2) (λ a t. refl)

pub ancestors_apart_2 : Apart (nested types_form) (λ _. ancestors_3)
ancestors_apart_2 = types_apart signs.Close refl

abbrev pub make_ancestors : ancestors_1.Tree → AncestorsTree
make_ancestors k = record { left = k.0; types = k.1.0; right = k.1.1 }

pub only_ancestors : (x : AncestorsTree) → ancestors_form.IsTree x → (k : ancestors_1.Tree) × ancestors_1.IsTree k × (x ≡ make_ancestors k)
only_ancestors x is = ((x.left, (x.types, x.right)), (tt, (is, tt)), refl)

ends_ancestors : Ends ancestors_1
ends_ancestors = ends_then (nested (word signs.Open)) (λ _. ancestors_2) (λ _. ends_then (nested types_form) (λ _. ancestors_3) (λ _. ends_class Place (fixed signs.Close)))

pub as_ancestors : (b : List MarkedToken) → Reshapes ancestors_form ancestors_1 make_ancestors b
as_ancestors b = record {
  into = λ k is. is.1.0;
  spells = λ k is. refl;
  only = λ x is g. only_ancestors x is;
  goes = λ k t is g. absurd (ends_ancestors.closed k t is g);
  level = λ k is. refl;
}

begin_ancestors : (room : ℕ) (b : List MarkedToken) → Leads ancestors_form ancestors_1 room make_ancestors b b
begin_ancestors room b = leads_as ancestors_form ancestors_1 make_ancestors room b (as_ancestors b)

pub ancestors_refused_1 : (room : ℕ) (b after : List MarkedToken) (e : Refusal) → Refuses (nested (word signs.Open)) room b e after → Refuses ancestors_form room b e after
ancestors_refused_1 room b after e h = passes ancestors_form ancestors_1 room make_ancestors b b after e (begin_ancestors room b) (first_refuses (nested (word signs.Open)) (λ _. ancestors_2) ancestors_apart_1 room b after e (λ a is. ((some_types, nowhere), ((tt, tt), tt))) h)

module _ (room : ℕ) (b : List MarkedToken) where
  module _ (x1 : Place) (c1 : List MarkedToken) (h1 : Found (nested (word signs.Open)) room b x1 c1) where
    ancestors_at_1 : Leads ancestors_form ancestors_2 room (λ k. make_ancestors (x1, k)) b c1
    ancestors_at_1 = leads_on ancestors_form ancestors_1 ancestors_2 room make_ancestors (beside (nested (word signs.Open)) (λ _. ancestors_2) x1) b b c1 (begin_ancestors room b) (leads_behind (nested (word signs.Open)) (λ _. ancestors_2) ancestors_apart_1 room b c1 x1 h1)

    pub ancestors_refused_2 : (after : List MarkedToken) (e : Refusal) → Refuses (nested types_form) room c1 e after → Refuses ancestors_form room b e after
    ancestors_refused_2 after e h = passes ancestors_form ancestors_2 room (λ k. make_ancestors (x1, k)) b c1 after e ancestors_at_1 (first_refuses (nested types_form) (λ _. ancestors_3) ancestors_apart_2 room c1 after e (λ a is. (nowhere, tt)) h)

    module _ (x2 : (Separated TypeData)) (c2 : List MarkedToken) (h2 : Found (nested types_form) room c1 x2 c2) where
      ancestors_at_2 : Leads ancestors_form ancestors_3 room (λ k. make_ancestors (x1, (x2, k))) b c2
      ancestors_at_2 = leads_on ancestors_form ancestors_2 ancestors_3 room (λ k. make_ancestors (x1, k)) (beside (nested types_form) (λ _. ancestors_3) x2) b c1 c2 ancestors_at_1 (leads_behind (nested types_form) (λ _. ancestors_3) ancestors_apart_2 room c1 c2 x2 h2)

      pub ancestors_refused_3 : (after : List MarkedToken) (e : Refusal) → Refuses (word signs.Close) room c2 e after → Refuses ancestors_form room b e after
      ancestors_refused_3 after e h = passes ancestors_form ancestors_3 room (λ k. make_ancestors (x1, (x2, k))) b c2 after e ancestors_at_2 h

      pub ancestors_found : (x3 : Place) (after : List MarkedToken) → Found (word signs.Close) room c2 x3 after → Found ancestors_form room b (make_ancestors (x1, (x2, x3))) after
      ancestors_found x3 after h = ancestors_at_2.finds x3 after h

pub structure_loci_apart_1 : Apart (word signs.Over) (λ _. structure_loci_2)
structure_loci_apart_1 = apart_closed (word signs.Over) (λ _. structure_loci_2) (λ a t. refl)

abbrev pub make_structure_loci : structure_loci_1.Tree → StructureLociTree
make_structure_loci k = record { over = k.0; identifiers = k.1 }

pub only_structure_loci : (x : StructureLociTree) → structure_loci_form.IsTree x → (k : structure_loci_1.Tree) × structure_loci_1.IsTree k × (x ≡ make_structure_loci k)
only_structure_loci x is = ((x.over, x.identifiers), (tt, any_names x.identifiers), refl)

structure_loci_goes : (k : structure_loci_1.Tree) (t : MarkedToken) → structure_loci_1.goes k t ≡ true → goes_on_names (sign_of t) ≡ true
structure_loci_goes k t g = or_goes (structure_loci_2.goes k.1 t) ((word signs.Over).goes k.0 t) (is_empty (structure_loci_2.spell k.1)) (goes_on_names (sign_of t)) (λ h0. h0) (λ h0. absurd (never h0)) g

pub as_structure_loci : (b : List MarkedToken) → Reshapes structure_loci_form structure_loci_1 make_structure_loci b
as_structure_loci b = record {
  into = λ k is. tt;
  spells = λ k is. refl;
  only = λ x is g. only_structure_loci x is;
  goes = λ k t is g. structure_loci_goes k t g;
  level = λ k is. refl;
}

begin_structure_loci : (room : ℕ) (b : List MarkedToken) → Leads structure_loci_form structure_loci_1 room make_structure_loci b b
begin_structure_loci room b = leads_as structure_loci_form structure_loci_1 make_structure_loci room b (as_structure_loci b)

pub structure_loci_refused_1 : (room : ℕ) (b after : List MarkedToken) (e : Refusal) → Refuses (word signs.Over) room b e after → Refuses structure_loci_form room b e after
structure_loci_refused_1 room b after e h = passes structure_loci_form structure_loci_1 room make_structure_loci b b after e (begin_structure_loci room b) (first_refuses (word signs.Over) (λ _. structure_loci_2) structure_loci_apart_1 room b after e (λ a is. (some_names, (tt, tt))) h)

module _ (room : ℕ) (b : List MarkedToken) where
  module _ (x1 : Place) (c1 : List MarkedToken) (h1 : Found (word signs.Over) room b x1 c1) where
    structure_loci_at_1 : Leads structure_loci_form structure_loci_2 room (λ k. make_structure_loci (x1, k)) b c1
    structure_loci_at_1 = leads_on structure_loci_form structure_loci_1 structure_loci_2 room make_structure_loci (beside (word signs.Over) (λ _. structure_loci_2) x1) b b c1 (begin_structure_loci room b) (leads_behind (word signs.Over) (λ _. structure_loci_2) structure_loci_apart_1 room b c1 x1 h1)

    pub structure_loci_refused_2 : (after : List MarkedToken) (e : Refusal) → Refuses identifiers_form room c1 e after → Refuses structure_loci_form room b e after
    structure_loci_refused_2 after e h = passes structure_loci_form structure_loci_2 room (λ k. make_structure_loci (x1, k)) b c1 after e structure_loci_at_1 h

    pub structure_loci_found : (x2 : (Separated IdentifierTree)) (after : List MarkedToken) → Found identifiers_form room c1 x2 after → Found structure_loci_form room b (make_structure_loci (x1, x2)) after
    structure_loci_found x2 after h = structure_loci_at_1.finds x2 after h

pub structure_apart_1 : Apart (word_form (codes "struct")) (λ _. structure_2)
structure_apart_1 = apart_closed (word_form (codes "struct")) (λ _. structure_2) (λ a t. refl)

pub structure_apart_2 : Apart optional_ancestors (λ _. structure_3)
structure_apart_2 = apart_off optional_ancestors structure_3 begins_ancestors (λ a t is g. ancestors_begun a t g) (off_one_then begins_ancestors (named signs.Structure) (λ _. structure_4) (λ w g. never (sym (ap is_open (sign_of-named signs.Structure w refl)) ∙ g)))

pub structure_apart_3 : Apart (name signs.Structure) (λ _. structure_4)
structure_apart_3 = apart_closed (name signs.Structure) (λ _. structure_4) (λ a t. refl)

pub structure_apart_4 : Apart optional_structure_loci (λ _. structure_5)
structure_apart_4 = apart_off optional_structure_loci structure_5 loci_or (λ a t is g. structure_loci_on a t g) (off_nested_then loci_or (fixed signs.OpenAggregate) (λ _. structure_6) (λ p g. loci_off_aggregate p g))

pub structure_apart_5 : Apart (nested (word signs.OpenAggregate)) (λ _. structure_6)
structure_apart_5 = apart_closed (nested (word signs.OpenAggregate)) (λ _. structure_6) (λ a t. refl)

pub structure_apart_6 : Apart (nested fields_form) (λ _. structure_7)
structure_apart_6 = fields_apart

pub structure_apart_7 : Apart (word signs.CloseAggregate) (λ _. structure_8)
structure_apart_7 = apart_closed (word signs.CloseAggregate) (λ _. structure_8) (λ a t. refl)

abbrev pub make_structure : structure_1.Tree → StructureTree
make_structure k = record { struct_ = k.0; ancestors = k.1.0; symbol = k.1.1.0; loci = k.1.1.1.0; left = k.1.1.1.1.0; fields = k.1.1.1.1.1.0; right = k.1.1.1.1.1.1.0; semicolon = k.1.1.1.1.1.1.1 }

pub only_structure : (x : StructureTree) → structure_form.IsTree x → (k : structure_1.Tree) × structure_1.IsTree k × (x ≡ make_structure k)
only_structure x is = ((x.struct_, (x.ancestors, (x.symbol, (x.loci, (x.left, (x.fields, (x.right, x.semicolon))))))), (tt, (is.0, (tt, (any_structure_loci x.loci, (tt, (is.1, (tt, tt))))))), refl)

ends_structure : Ends structure_1
ends_structure = ends_then (word_form (codes "struct")) (λ _. structure_2) (λ _. ends_then optional_ancestors (λ _. structure_3) (λ _. ends_then (name signs.Structure) (λ _. structure_4) (λ _. ends_then optional_structure_loci (λ _. structure_5) (λ _. ends_then (nested (word signs.OpenAggregate)) (λ _. structure_6) (λ _. ends_then (nested fields_form) (λ _. structure_7) (λ _. ends_then (word signs.CloseAggregate) (λ _. structure_8) (λ _. ends_class Place (key keywords.Semicolon))))))))

structure_spells : (k : structure_1.Tree) → structure_form.spell (make_structure k) ≡ structure_1.spell k
structure_spells k = ap (λ z. word_token (codes "struct") k.0 ∷ z) (append-grouped (optional_ancestors.spell k.1.0) (named signs.Structure k.1.1.0 ∷ optional_structure_loci.spell k.1.1.1.0) (fixed signs.OpenAggregate k.1.1.1.1.0 ∷ fields_form.spell k.1.1.1.1.1.0) (fixed signs.CloseAggregate k.1.1.1.1.1.1.0 ∷ (key keywords.Semicolon k.1.1.1.1.1.1.1 ∷ [])))

structure_levels : (k : structure_1.Tree) → structure_form.levels (make_structure k) ≡ structure_1.levels k
structure_levels k = ap (λ z. 0 ∷ z) (append-grouped (optional_ancestors.levels k.1.0) (0 ∷ optional_structure_loci.levels k.1.1.1.0) (1 ∷ map suc (fields_form.levels k.1.1.1.1.1.0)) (0 ∷ (0 ∷ [])))

pub as_structure : (b : List MarkedToken) → Reshapes structure_form structure_1 make_structure b
as_structure b = record {
  into = λ k is. (is.1.0, is.1.1.1.1.1.0);
  spells = λ k is. structure_spells k;
  only = λ x is g. only_structure x is;
  goes = λ k t is g. absurd (ends_structure.closed k t is g);
  level = λ k is. structure_levels k;
}

begin_structure : (room : ℕ) (b : List MarkedToken) → Leads structure_form structure_1 room make_structure b b
begin_structure room b = leads_as structure_form structure_1 make_structure room b (as_structure b)

pub structure_refused_1 : (room : ℕ) (b after : List MarkedToken) (e : Refusal) → Refuses (word_form (codes "struct")) room b e after → Refuses structure_form room b e after
structure_refused_1 room b after e h = passes structure_form structure_1 room make_structure b b after e (begin_structure room b) (first_refuses (word_form (codes "struct")) (λ _. structure_2) structure_apart_1 room b after e (λ a is. ((None, ((word_at nowhere), (None, (nowhere, (some_fields, (nowhere, nowhere)))))), (tt, (tt, (tt, (tt, ((tt, tt), (tt, tt)))))))) h)

module _ (room : ℕ) (b : List MarkedToken) where
  module _ (x1 : Place) (c1 : List MarkedToken) (h1 : Found (word_form (codes "struct")) room b x1 c1) where
    structure_at_1 : Leads structure_form structure_2 room (λ k. make_structure (x1, k)) b c1
    structure_at_1 = leads_on structure_form structure_1 structure_2 room make_structure (beside (word_form (codes "struct")) (λ _. structure_2) x1) b b c1 (begin_structure room b) (leads_behind (word_form (codes "struct")) (λ _. structure_2) structure_apart_1 room b c1 x1 h1)

    pub structure_refused_2 : (after : List MarkedToken) (e : Refusal) → Refuses optional_ancestors room c1 e after → Refuses structure_form room b e after
    structure_refused_2 after e h = passes structure_form structure_2 room (λ k. make_structure (x1, k)) b c1 after e structure_at_1 (first_refuses optional_ancestors (λ _. structure_3) structure_apart_2 room c1 after e (λ a is. (((word_at nowhere), (None, (nowhere, (some_fields, (nowhere, nowhere))))), (tt, (tt, (tt, ((tt, tt), (tt, tt))))))) h)

    module _ (x2 : (Option AncestorsTree)) (c2 : List MarkedToken) (h2 : Found optional_ancestors room c1 x2 c2) where
      structure_at_2 : Leads structure_form structure_3 room (λ k. make_structure (x1, (x2, k))) b c2
      structure_at_2 = leads_on structure_form structure_2 structure_3 room (λ k. make_structure (x1, k)) (beside optional_ancestors (λ _. structure_3) x2) b c1 c2 structure_at_1 (leads_behind optional_ancestors (λ _. structure_3) structure_apart_2 room c1 c2 x2 h2)

      pub structure_refused_3 : (after : List MarkedToken) (e : Refusal) → Refuses (name signs.Structure) room c2 e after → Refuses structure_form room b e after
      structure_refused_3 after e h = passes structure_form structure_3 room (λ k. make_structure (x1, (x2, k))) b c2 after e structure_at_2 (first_refuses (name signs.Structure) (λ _. structure_4) structure_apart_3 room c2 after e (λ a is. ((None, (nowhere, (some_fields, (nowhere, nowhere)))), (tt, (tt, ((tt, tt), (tt, tt)))))) h)

      module _ (x3 : Word) (c3 : List MarkedToken) (h3 : Found (name signs.Structure) room c2 x3 c3) where
        structure_at_3 : Leads structure_form structure_4 room (λ k. make_structure (x1, (x2, (x3, k)))) b c3
        structure_at_3 = leads_on structure_form structure_3 structure_4 room (λ k. make_structure (x1, (x2, k))) (beside (name signs.Structure) (λ _. structure_4) x3) b c2 c3 structure_at_2 (leads_behind (name signs.Structure) (λ _. structure_4) structure_apart_3 room c2 c3 x3 h3)

        pub structure_refused_4 : (after : List MarkedToken) (e : Refusal) → Refuses optional_structure_loci room c3 e after → Refuses structure_form room b e after
        structure_refused_4 after e h = passes structure_form structure_4 room (λ k. make_structure (x1, (x2, (x3, k)))) b c3 after e structure_at_3 (first_refuses optional_structure_loci (λ _. structure_5) structure_apart_4 room c3 after e (λ a is. ((nowhere, (some_fields, (nowhere, nowhere))), (tt, ((tt, tt), (tt, tt))))) h)

        module _ (x4 : (Option StructureLociTree)) (c4 : List MarkedToken) (h4 : Found optional_structure_loci room c3 x4 c4) where
          structure_at_4 : Leads structure_form structure_5 room (λ k. make_structure (x1, (x2, (x3, (x4, k))))) b c4
          structure_at_4 = leads_on structure_form structure_4 structure_5 room (λ k. make_structure (x1, (x2, (x3, k)))) (beside optional_structure_loci (λ _. structure_5) x4) b c3 c4 structure_at_3 (leads_behind optional_structure_loci (λ _. structure_5) structure_apart_4 room c3 c4 x4 h4)

          pub structure_refused_5 : (after : List MarkedToken) (e : Refusal) → Refuses (nested (word signs.OpenAggregate)) room c4 e after → Refuses structure_form room b e after
          structure_refused_5 after e h = passes structure_form structure_5 room (λ k. make_structure (x1, (x2, (x3, (x4, k))))) b c4 after e structure_at_4 (first_refuses (nested (word signs.OpenAggregate)) (λ _. structure_6) structure_apart_5 room c4 after e (λ a is. ((some_fields, (nowhere, nowhere)), ((tt, tt), (tt, tt)))) h)

          module _ (x5 : Place) (c5 : List MarkedToken) (h5 : Found (nested (word signs.OpenAggregate)) room c4 x5 c5) where
            structure_at_5 : Leads structure_form structure_6 room (λ k. make_structure (x1, (x2, (x3, (x4, (x5, k)))))) b c5
            structure_at_5 = leads_on structure_form structure_5 structure_6 room (λ k. make_structure (x1, (x2, (x3, (x4, k))))) (beside (nested (word signs.OpenAggregate)) (λ _. structure_6) x5) b c4 c5 structure_at_4 (leads_behind (nested (word signs.OpenAggregate)) (λ _. structure_6) structure_apart_5 room c4 c5 x5 h5)

            pub structure_refused_6 : (after : List MarkedToken) (e : Refusal) → Refuses (nested fields_form) room c5 e after → Refuses structure_form room b e after
            structure_refused_6 after e h = passes structure_form structure_6 room (λ k. make_structure (x1, (x2, (x3, (x4, (x5, k)))))) b c5 after e structure_at_5 (first_refuses (nested fields_form) (λ _. structure_7) structure_apart_6 room c5 after e (λ a is. ((nowhere, nowhere), (tt, tt))) h)

            module _ (x6 : (Separated FieldTree)) (c6 : List MarkedToken) (h6 : Found (nested fields_form) room c5 x6 c6) where
              structure_at_6 : Leads structure_form structure_7 room (λ k. make_structure (x1, (x2, (x3, (x4, (x5, (x6, k))))))) b c6
              structure_at_6 = leads_on structure_form structure_6 structure_7 room (λ k. make_structure (x1, (x2, (x3, (x4, (x5, k)))))) (beside (nested fields_form) (λ _. structure_7) x6) b c5 c6 structure_at_5 (leads_behind (nested fields_form) (λ _. structure_7) structure_apart_6 room c5 c6 x6 h6)

              pub structure_refused_7 : (after : List MarkedToken) (e : Refusal) → Refuses (word signs.CloseAggregate) room c6 e after → Refuses structure_form room b e after
              structure_refused_7 after e h = passes structure_form structure_7 room (λ k. make_structure (x1, (x2, (x3, (x4, (x5, (x6, k))))))) b c6 after e structure_at_6 (first_refuses (word signs.CloseAggregate) (λ _. structure_8) structure_apart_7 room c6 after e (λ a is. (nowhere, tt)) h)

              module _ (x7 : Place) (c7 : List MarkedToken) (h7 : Found (word signs.CloseAggregate) room c6 x7 c7) where
                structure_at_7 : Leads structure_form structure_8 room (λ k. make_structure (x1, (x2, (x3, (x4, (x5, (x6, (x7, k)))))))) b c7
                structure_at_7 = leads_on structure_form structure_7 structure_8 room (λ k. make_structure (x1, (x2, (x3, (x4, (x5, (x6, k))))))) (beside (word signs.CloseAggregate) (λ _. structure_8) x7) b c6 c7 structure_at_6 (leads_behind (word signs.CloseAggregate) (λ _. structure_8) structure_apart_7 room c6 c7 x7 h7)

                pub structure_refused_8 : (after : List MarkedToken) (e : Refusal) → Refuses (keyword keywords.Semicolon) room c7 e after → Refuses structure_form room b e after
                structure_refused_8 after e h = passes structure_form structure_8 room (λ k. make_structure (x1, (x2, (x3, (x4, (x5, (x6, (x7, k)))))))) b c7 after e structure_at_7 h

                pub structure_found : (x8 : Place) (after : List MarkedToken) → Found (keyword keywords.Semicolon) room c7 x8 after → Found structure_form room b (make_structure (x1, (x2, (x3, (x4, (x5, (x6, (x7, x8)))))))) after
                structure_found x8 after h = structure_at_7.finds x8 after h

-- What parts that may be left out begin with.
pub starts_ancestors : Starts ancestors_form begins_ancestors
starts_ancestors = record {
  filled = λ x is e. cc;
  first = λ x t m is e. ap begins_ancestors (sym (head_of _ _ _ _ e)) ∙ ap is_open (sign_of-fixed signs.Open x.left refl);
}

open_is : (s : Sign) → is_open s ≡ true → s ≡ signs.Open
open_is signs.Open e = refl
open_is _ e = cc

over_is : (s : Sign) → is_over s ≡ true → s ≡ signs.Over
over_is signs.Over e = refl
over_is _ e = cc

abbrev behind_open : List MarkedToken
behind_open = types_form.spell some_types ++ fixed signs.Close nowhere ∷ []

pub begun_ancestors : (t : MarkedToken) → begins_ancestors t ≡ true → Begun ancestors_form t
begun_ancestors t h = (record { left = t.token.place; types = some_types; right = nowhere }, behind_open, (tt, tt), ap (λ z. z ∷ behind_open) (sym (told_fixed signs.Open t refl (open_is (sign_of t) h))))

pub starts_structure_loci : Starts structure_loci_form begins_structure_loci
starts_structure_loci = record {
  filled = λ x is e. cc;
  first = λ x t m is e. ap begins_structure_loci (sym (head_of _ _ _ _ e)) ∙ ap is_over (sign_of-fixed signs.Over x.over refl);
}

pub begun_structure_loci : (t : MarkedToken) → begins_structure_loci t ≡ true → Begun structure_loci_form t
begun_structure_loci t h = (record { over = t.token.place; identifiers = some_names }, identifiers_form.spell some_names, tt, ap (λ z. z ∷ identifiers_form.spell some_names) (sym (told_fixed signs.Over t refl (over_is (sign_of t) h))))
