-- The readings of headings of modes, and of types in headings.
use Rattle.std.specs.Prelude.{codes}
use Rattle.std.proofs.Common.{◌≡◌, ℕ, false, List, [], ◌∷◌, ◌++◌, refl, sym, ap, ◌∙◌, append_assoc, None}
use Rattle.mz_base.specs.declared.place.Place.{Place}
use Rattle.mz_base.specs.declared.token.MarkedToken.{MarkedToken}
use Rattle.mz_forms.specs.declared.refusal.Refusal.{Refusal}
use Rattle.mz_forms.specs.Form.{Form, Found, Leads, is_empty, then}
use Rattle.mz_forms.specs.Reading.{Refuses}
use Rattle.mz_forms.proofs.Choose.{Reshapes}
use Rattle.mz_forms.proofs.Compose.{Apart}
use Rattle.mz_forms.proofs.Leads.{leads_as, apart_closed, passes}
use Rattle.mz_tree_heading.specs.declared.heading.HeadingTree.TheVariants as heading_tree
use Rattle.mz_tree_heading.specs.declared.patterns.ModePatternTree.{ModePatternTree}
use Rattle.mz_tree.specs.Trees.{TypeData, ModeType, no_adjectives}
use Rattle.mz_tree.specs.Spell.{spell_type}
use Rattle.mz_pterm.specs.declared.sign.Sign.TheVariants as signs
use Rattle.mz_pterm.specs.Sign.{sign_of}
use Rattle.mz_pterm.specs.Words.{fixed}
use Rattle.mz_pterm.proofs.Bases.{word_at}
use Rattle.mz_pterm.proofs.Signs.{sign_of-fixed}
use Rattle.mz_ptype.specs.Forms.{whole_type, goes_type}
use Rattle.mz_ptype.proofs.Optional.{never}
use Rattle.mz_pjustification.specs.declared.keyword.Keyword.TheVariants as keywords
use Rattle.mz_pjustification.specs.Words.{key}
use Rattle.mz_pjustification.proofs.Taken.{nowhere, or_goes}
use Rattle.mz_pstep.proofs.Ends.{Ends, ends_then}
use Rattle.mz_ppattern.specs.Words.{arrow_form, word_form, word_token}
use Rattle.mz_ppattern.specs.Classes.{goes_on_pattern}
use Rattle.mz_ppattern.specs.Forms.{mode_pattern_form}
use Rattle.mz_ppattern.proofs.Sets.{Off, apart_off, head_off}
use Rattle.mz_pmeaning.specs.MeaningForms.{means_form}
use Rattle.mz_pheading.specs.ModeForms.{abbreviates, defines, definition_rest, levels_mode_rest, mode_form, mode_from, mode_rest_form, optional_result, result_form, spell_mode_rest, IsModeRest, IsOfMode, ModeRest}
use Rattle.mz_pheading.proofs.ModeSteps.{definition_unsigned, some_rest, some_rest_is}
use Rattle.mz_pmeaning.proofs.Steps.{next, stopped, append-grouped, off_unsigned}

-- Examples.
abbrev pub some_type : TypeData
some_type = ModeType no_adjectives (word_at nowhere)

abbrev pub some_mode_pattern : ModePatternTree
some_mode_pattern = record { symbol = word_at nowhere; loci = None }

-- result
abbrev pub result_2 : Form MarkedToken
result_2 = (whole_type false)

abbrev pub result_1 : Form MarkedToken
result_1 = then arrow_form (λ _. result_2)

pub result_apart_1 : Apart arrow_form (λ _. result_2)
result_apart_1 = apart_closed arrow_form (λ _. result_2) (λ a t. refl)

abbrev pub make_result : result_1.Tree → result_form.Tree
make_result k = record { arrow = k.0; ty = k.1 }

pub only_result : (x : result_form.Tree) → result_form.IsTree x → (k : result_1.Tree) × result_1.IsTree k × (x ≡ make_result k)
only_result x is = ((x.arrow, x.ty), (tt, is), refl)

pub as_result : (b : List MarkedToken) → Reshapes result_form result_1 make_result b
as_result b = record {
  into = λ k is. is.1;
  spells = λ k is. refl;
  only = λ x is g. only_result x is;
  goes = λ k t is g. or_goes (goes_type k.1 (sign_of t)) false (is_empty (spell_type k.1)) (goes_type k.1 (sign_of t)) (λ h. h) (λ h. absurd (never h)) g;
  level = λ k is. refl;
}

begin_result : (room : ℕ) (b : List MarkedToken) → Leads result_form result_1 room make_result b b
begin_result room b = leads_as result_form result_1 make_result room b (as_result b)

pub result_refused_1 : (room : ℕ) (b after : List MarkedToken) (e : Refusal) → Refuses arrow_form room b e after → Refuses result_form room b e after
result_refused_1 room b after e h = stopped result_form arrow_form (λ _. result_2) result_apart_1 room b b make_result (begin_result room b) after e (λ a is. (some_type, tt)) h

module _ (room : ℕ) (b : List MarkedToken) where
  module _ (x1 : arrow_form.Tree) (c1 : List MarkedToken) (h1 : Found arrow_form room b x1 c1) where
    result_at_1 : Leads result_form result_2 room (λ k. make_result (x1, k)) b c1
    result_at_1 = next result_form arrow_form (λ _. result_2) result_apart_1 room b b make_result (begin_result room b) x1 c1 h1

    pub result_refused_2 : (after : List MarkedToken) (e : Refusal) → Refuses (whole_type false) room c1 e after → Refuses result_form room b e after
    result_refused_2 after e h = passes result_form result_2 room (λ k. make_result (x1, k)) b c1 after e result_at_1 h

    pub result_found : (x2 : (whole_type false).Tree) (after : List MarkedToken) → Found (whole_type false) room c1 x2 after → Found result_form room b (make_result (x1, x2)) after
    result_found x2 after h = result_at_1.finds x2 after h

mode_into : (p : Place) (m : ModePatternTree) (r : ModeRest) → IsModeRest r → IsOfMode (mode_from p m r)
mode_into p m (abbreviates q t s) is = is.1.0
mode_into p m (defines o k s) is = (is.0, is.1.0)

mode_spells : (p : Place) (m : ModePatternTree) (r : ModeRest) → mode_form.spell (mode_from p m r) ≡ word_token (codes "mode") p ∷ (mode_pattern_form.spell m ++ spell_mode_rest r)
mode_spells p m (abbreviates q t s) = ap (λ z. word_token (codes "mode") p ∷ z) (append_assoc (mode_pattern_form.spell m) (fixed signs.Is q ∷ spell_type t) (key keywords.Semicolon s ∷ []))
mode_spells p m (defines o k s) = ap (λ z. word_token (codes "mode") p ∷ z) (append-grouped (mode_pattern_form.spell m) (optional_result.spell o) (means_form.spell k) (key keywords.Semicolon s ∷ []))

mode_levels : (p : Place) (m : ModePatternTree) (r : ModeRest) → mode_form.levels (mode_from p m r) ≡ 0 ∷ (mode_pattern_form.levels m ++ levels_mode_rest r)
mode_levels p m (abbreviates q t s) = ap (λ z. 0 ∷ z) (append_assoc (mode_pattern_form.levels m) (0 ∷ (whole_type false).levels t) (0 ∷ []))
mode_levels p m (defines o k s) = ap (λ z. 0 ∷ z) (append-grouped (mode_pattern_form.levels m) (optional_result.levels o) (means_form.levels k) (0 ∷ []))

pub ends_rest : Ends mode_rest_form
ends_rest = record { filled = λ x is e. filled x e; closed = λ x t is g. never g }
  where
    right_nil : (v w : List MarkedToken) → v ++ w ≡ [] → w ≡ []
    right_nil [] w f = f
    right_nil (s ∷ v) w f = cc

    not_nil : (t : MarkedToken) (m : List MarkedToken) → t ∷ m ≡ [] → ⊥
    not_nil t m e = cc

    filled : (x : ModeRest) → spell_mode_rest x ≡ [] → ⊥
    filled (abbreviates q t s) e = cc
    filled (defines o k s) e = not_nil (key keywords.Semicolon s) [] (right_nil (means_form.spell k) (key keywords.Semicolon s ∷ []) (right_nil (optional_result.spell o) (means_form.spell k ++ key keywords.Semicolon s ∷ []) e))

pattern_off_rest : Off (λ t. goes_on_pattern (sign_of t)) mode_rest_form
pattern_off_rest (abbreviates q y s) t m is e g = head_off (λ t. goes_on_pattern (sign_of t)) (fixed signs.Is q) t _ m e (λ h. never (sym (ap goes_on_pattern (sign_of-fixed signs.Is q refl)) ∙ h)) g
pattern_off_rest (defines o k s) t m is e g = off_unsigned goes_on_pattern definition_rest refl definition_unsigned (o, (k, s)) t m is e g

-- mode
abbrev pub mode_3 : Form MarkedToken
mode_3 = mode_rest_form

abbrev pub mode_2 : Form MarkedToken
mode_2 = then mode_pattern_form (λ _. mode_3)

abbrev pub mode_1 : Form MarkedToken
mode_1 = then (word_form (codes "mode")) (λ _. mode_2)

pub mode_apart_1 : Apart (word_form (codes "mode")) (λ _. mode_2)
mode_apart_1 = apart_closed (word_form (codes "mode")) (λ _. mode_2) (λ a t. refl)

pub mode_apart_2 : Apart mode_pattern_form (λ _. mode_3)
mode_apart_2 = apart_off mode_pattern_form mode_rest_form (λ t. goes_on_pattern (sign_of t)) (λ a t is g. g) pattern_off_rest

abbrev pub make_mode : mode_1.Tree → mode_form.Tree
make_mode k = mode_from k.0 k.1.0 k.1.1

pub only_mode : (x : mode_form.Tree) → mode_form.IsTree x → (k : mode_1.Tree) × mode_1.IsTree k × (x ≡ make_mode k)
only_mode (heading_tree.Mode a) is = ((a.mode, (a.pattern, defines a.result a.meaning a.semicolon)), (tt, (tt, (is.0, (is.1, tt)))), refl)
only_mode (heading_tree.Abbreviation a) is = ((a.mode, (a.pattern, abbreviates a.is a.ty a.semicolon)), (tt, (tt, (tt, (is, tt)))), refl)
only_mode (heading_tree.Functor a) is = absurd is
only_mode (heading_tree.Predicate a) is = absurd is
only_mode (heading_tree.Attribute a) is = absurd is
only_mode (heading_tree.Structure a) is = absurd is
only_mode (heading_tree.RedefinedFunctor p a) is = absurd is
only_mode (heading_tree.RedefinedPredicate p a) is = absurd is
only_mode (heading_tree.RedefinedAttribute p a) is = absurd is
only_mode (heading_tree.RedefinedMode p a) is = absurd is

ends_mode : Ends mode_1
ends_mode = ends_then (word_form (codes "mode")) (λ _. mode_2) (λ _. (ends_then mode_pattern_form (λ _. mode_3) (λ _. ends_rest)))

pub as_mode : (b : List MarkedToken) → Reshapes mode_form mode_1 make_mode b
as_mode b = record {
  into = λ k is. mode_into k.0 k.1.0 k.1.1 is.1.1;
  spells = λ k is. mode_spells k.0 k.1.0 k.1.1;
  only = λ x is g. only_mode x is;
  goes = λ k t is g. absurd (ends_mode.closed k t is g);
  level = λ k is. mode_levels k.0 k.1.0 k.1.1;
}

begin_mode : (room : ℕ) (b : List MarkedToken) → Leads mode_form mode_1 room make_mode b b
begin_mode room b = leads_as mode_form mode_1 make_mode room b (as_mode b)

pub mode_refused_1 : (room : ℕ) (b after : List MarkedToken) (e : Refusal) → Refuses (word_form (codes "mode")) room b e after → Refuses mode_form room b e after
mode_refused_1 room b after e h = stopped mode_form (word_form (codes "mode")) (λ _. mode_2) mode_apart_1 room b b make_mode (begin_mode room b) after e (λ a is. ((some_mode_pattern, some_rest), (tt, some_rest_is))) h

module _ (room : ℕ) (b : List MarkedToken) where
  module _ (x1 : (word_form (codes "mode")).Tree) (c1 : List MarkedToken) (h1 : Found (word_form (codes "mode")) room b x1 c1) where
    mode_at_1 : Leads mode_form mode_2 room (λ k. make_mode (x1, k)) b c1
    mode_at_1 = next mode_form (word_form (codes "mode")) (λ _. mode_2) mode_apart_1 room b b make_mode (begin_mode room b) x1 c1 h1

    pub mode_refused_2 : (after : List MarkedToken) (e : Refusal) → Refuses mode_pattern_form room c1 e after → Refuses mode_form room b e after
    mode_refused_2 after e h = stopped mode_form mode_pattern_form (λ _. mode_3) mode_apart_2 room b c1 (λ k. make_mode (x1, k)) mode_at_1 after e (λ a is. (some_rest, some_rest_is)) h

    module _ (x2 : mode_pattern_form.Tree) (c2 : List MarkedToken) (h2 : Found mode_pattern_form room c1 x2 c2) where
      mode_at_2 : Leads mode_form mode_3 room (λ k. make_mode (x1, (x2, k))) b c2
      mode_at_2 = next mode_form mode_pattern_form (λ _. mode_3) mode_apart_2 room b c1 (λ k. make_mode (x1, k)) mode_at_1 x2 c2 h2

      pub mode_refused_3 : (after : List MarkedToken) (e : Refusal) → Refuses mode_rest_form room c2 e after → Refuses mode_form room b e after
      mode_refused_3 after e h = passes mode_form mode_3 room (λ k. make_mode (x1, (x2, k))) b c2 after e mode_at_2 h

      pub mode_found : (x3 : mode_rest_form.Tree) (after : List MarkedToken) → Found mode_rest_form room c2 x3 after → Found mode_form room b (make_mode (x1, (x2, x3))) after
      mode_found x3 after h = mode_at_2.finds x3 after h
