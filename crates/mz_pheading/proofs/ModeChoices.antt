-- What stands behind the pattern of a mode, and redefinitions of modes.
use Rattle.std.specs.Prelude.{codes}
use Rattle.std.proofs.Common.{◌≡◌, ℕ, Bool, false, List, [], ◌∷◌, refl, sym, ap, subst, ◌∙◌, arith, Option, Some, None, is_some, Result, Ok, Err}
use Rattle.mz_base.specs.declared.place.Place.{Place}
use Rattle.mz_base.specs.declared.token.MarkedToken.{MarkedToken}
use Rattle.mz_forms.specs.declared.refusal.Refusal.{Refusal}
use Rattle.mz_forms.specs.Form.{Form, Agrees, Found, Leads, then}
use Rattle.mz_forms.specs.Reading.{Reads, Refuses}
use Rattle.mz_forms.proofs.Choose.{Chooses, Reshapes}
use Rattle.mz_forms.proofs.Compose.{Apart, head_of}
use Rattle.mz_forms.proofs.Leads.{leads_as, leads_by, apart_closed, passes}
use Rattle.mz_tree.specs.Trees.{TypeData}
use Rattle.mz_tree_heading.specs.declared.heading.HeadingTree.{HeadingTree}
use Rattle.mz_tree_heading.specs.declared.heading.ModeHeadingTree.{ModeHeadingTree}
use Rattle.mz_tree_heading.specs.declared.heading.ResultTree.{ResultTree}
use Rattle.mz_tree_heading.specs.declared.meaning.MeaningTree.{MeaningTree}
use Rattle.mz_tree_heading.specs.declared.patterns.ModePatternTree.{ModePatternTree}
use Rattle.mz_pterm.specs.declared.sign.Sign.TheVariants as signs
use Rattle.mz_pterm.specs.Words.{fixed, TakesPlace}
use Rattle.mz_pterm.proofs.Signs.{same_fixed, sign_of-fixed}
use Rattle.mz_ptype.specs.Forms.{whole_type}
use Rattle.mz_pjustification.specs.declared.keyword.Keyword.TheVariants as keywords
use Rattle.mz_pjustification.specs.Words.{key, keyword}
use Rattle.mz_pjustification.proofs.Taken.{first_only, nowhere}
use Rattle.mz_pstep.proofs.Ends.{Ends, ends_key, ends_then}
use Rattle.mz_ppattern.specs.Classes.{goes_on_pattern}
use Rattle.mz_ppattern.specs.Optional.{plainly}
use Rattle.mz_ppattern.specs.Words.{word_form, word_token}
use Rattle.mz_ppattern.specs.Forms.{mode_pattern_form}
use Rattle.mz_pmeaning.specs.MeaningForms.{means_form}
use Rattle.mz_pmeaning.proofs.MeaningSteps.{means_is_meant}
use Rattle.mz_pmeaning.proofs.Steps.{next, stopped, apart_unsigned, append-grouped, Unsigned}
use Rattle.mz_pheading.specs.ModeForms.{abbreviates, defines, definition_rest, mode_form, mode_meaning, mode_rest_form, optional_result, redefined_mode_form, spell_mode_rest, stated, IsModeRest, ModeRest, ReadsModeRest}
use Rattle.mz_pheading.proofs.ModeSequences.{ends_rest, mode_found, mode_refused_3, some_mode_pattern}
use Rattle.mz_pheading.proofs.ModeSteps.{definition_unsigned, ended, meaning_from, meaning_into, meant_apart, mode_meaning_is_meant, result_apart, result_unsigned, some_meaning, some_stated, type_apart}

-- An abbreviation: `is` and a type.
abbrev pub typed : Form MarkedToken
typed = then (whole_type false) (λ _. keyword keywords.Semicolon)

ends_typed : Ends typed
ends_typed = ends_then (whole_type false) (λ _. keyword keywords.Semicolon) (λ _. ends_key keywords.Semicolon)

abbrev pub abbreviated_by : Place → typed.Tree → ModeRest
abbreviated_by p k = abbreviates p k.0 k.1

only_typed : (p : Place) (x : ModeRest) (more : List MarkedToken) → IsModeRest x → spell_mode_rest x ≡ fixed signs.Is p ∷ more → (k : typed.Tree) × typed.IsTree k × (x ≡ abbreviated_by p k)
only_typed p (abbreviates q t s) more is e = ((t, s), is.1, ap (λ z. abbreviates z t s) (same_fixed signs.Is refl q p (head_of _ _ _ _ e)))
only_typed p (defines o k s) more is e = absurd (clash (sym (sign_of-fixed signs.Is p refl) ∙ definition_unsigned (o, (k, s)) (fixed signs.Is p) more is e))
  where
    clash : signs.Is ≡ signs.Other → ⊥
    clash f = cc

pub by_is : (p : Place) → Chooses mode_rest_form (fixed signs.Is p) typed (abbreviated_by p) 0
by_is p = record {
  level = λ k is. refl;
  into = λ k is. (tt, is);
  spells = λ k is. refl;
  only = λ x more is e. only_typed p x more is e;
  empty = λ x is e. absurd (ends_rest.filled x is e);
  goes = λ k t is g. absurd (ends_typed.closed k t is g);
}

module _ (room : ℕ) (p : Place) (b c : List MarkedToken) (taken : TakesPlace signs.Is b (Some p) c) where
  at_is : Leads mode_rest_form typed room (abbreviated_by p) b c
  at_is = leads_by mode_rest_form (fixed signs.Is p) typed (abbreviated_by p) 0 (by_is p) room (omega arith) b c taken

  pub type_stopped : (after : List MarkedToken) (e : Refusal) → Refuses (whole_type false) room c e after → Refuses mode_rest_form room b e after
  type_stopped after e h = stopped mode_rest_form (whole_type false) (λ _. keyword keywords.Semicolon) type_apart room b c (abbreviated_by p) at_is after e (λ a is. (nowhere, tt)) h

  module _ (t : TypeData) (d : List MarkedToken) (found : Found (whole_type false) room c t d) where
    at_type : Leads mode_rest_form (keyword keywords.Semicolon) room (λ q. abbreviates p t q) b d
    at_type = next mode_rest_form (whole_type false) (λ _. keyword keywords.Semicolon) type_apart room b c (abbreviated_by p) at_is t d found

    pub end_stopped : (after : List MarkedToken) (e : Refusal) → Refuses (keyword keywords.Semicolon) room d e after → Refuses mode_rest_form room b e after
    end_stopped after e h = passes mode_rest_form (keyword keywords.Semicolon) room (λ q. abbreviates p t q) b d after e at_type h

    pub abbreviated : (q : Place) (after : List MarkedToken) → Found (keyword keywords.Semicolon) room d q after → Found mode_rest_form room b (abbreviates p t q) after
    abbreviated q after h = at_type.finds q after h

-- A definition.
ends_definition : Ends definition_rest
ends_definition = ends_then optional_result (λ _. ended means_form means_is_meant) (λ _. ends_then means_form (λ _. keyword keywords.Semicolon) (λ _. ends_key keywords.Semicolon))

abbrev pub defined_by : definition_rest.Tree → ModeRest
defined_by k = defines k.0 k.1.0 k.1.1

pub as_definition : (b : List MarkedToken) → ((p : Place) → Agrees b (fixed signs.Is p ∷ []) → ⊥) → Reshapes mode_rest_form definition_rest defined_by b
as_definition b none = record {
  into = λ k is. is;
  spells = λ k is. refl;
  only = λ x is g. only x is g;
  goes = λ k t is g. absurd (ends_definition.closed k t is g);
  level = λ k is. refl;
}
  where
    only : (x : ModeRest) → IsModeRest x → Agrees b (spell_mode_rest x) → (k : definition_rest.Tree) × definition_rest.IsTree k × (x ≡ defined_by k)
    only (abbreviates p t q) is g = absurd (none p (first_only b (fixed signs.Is p) _ g))
    only (defines o k q) is g = ((o, (k, q)), is, refl)

abbrev pub means_ended : Form MarkedToken
means_ended = then means_form (λ _. keyword keywords.Semicolon)

pub definition_apart_1 : Apart optional_result (λ _. means_ended)
definition_apart_1 = result_apart means_form means_is_meant

pub definition_apart_2 : Apart means_form (λ _. keyword keywords.Semicolon)
definition_apart_2 = meant_apart means_form means_is_meant

module _ (room : ℕ) (b c : List MarkedToken) (none : TakesPlace signs.Is b None c) where
  at_definition : Leads mode_rest_form definition_rest room defined_by b c
  at_definition = let D : List MarkedToken → Type 0 = λ z. Leads mode_rest_form definition_rest room defined_by b z in subst D none.0 (leads_as mode_rest_form definition_rest defined_by room b (as_definition b none.1))

  pub definition_refused_1 : (after : List MarkedToken) (e : Refusal) → Refuses optional_result room c e after → Refuses mode_rest_form room b e after
  definition_refused_1 after e h = stopped mode_rest_form optional_result (λ _. means_ended) definition_apart_1 room b c defined_by at_definition after e (λ a is. ((some_meaning, nowhere), (((tt, tt), tt), tt))) h

  module _ (o : Option ResultTree) (d : List MarkedToken) (h1 : Found optional_result room c o d) where
    at_result : Leads mode_rest_form means_ended room (λ k. defines o k.0 k.1) b d
    at_result = next mode_rest_form optional_result (λ _. means_ended) definition_apart_1 room b c defined_by at_definition o d h1

    pub definition_refused_2 : (after : List MarkedToken) (e : Refusal) → Refuses means_form room d e after → Refuses mode_rest_form room b e after
    definition_refused_2 after e h = stopped mode_rest_form means_form (λ _. keyword keywords.Semicolon) definition_apart_2 room b d (λ k. defines o k.0 k.1) at_result after e (λ a is. (nowhere, tt)) h

    module _ (k : MeaningTree) (f : List MarkedToken) (h2 : Found means_form room d k f) where
      at_means : Leads mode_rest_form (keyword keywords.Semicolon) room (λ q. defines o k q) b f
      at_means = next mode_rest_form means_form (λ _. keyword keywords.Semicolon) definition_apart_2 room b d (λ k. defines o k.0 k.1) at_result k f h2

      pub definition_refused_3 : (after : List MarkedToken) (e : Refusal) → Refuses (keyword keywords.Semicolon) room f e after → Refuses mode_rest_form room b e after
      definition_refused_3 after e h = passes mode_rest_form (keyword keywords.Semicolon) room (λ q. defines o k q) b f after e at_means h

      pub definition_found : (q : Place) (after : List MarkedToken) → Found (keyword keywords.Semicolon) room f q after → Found mode_rest_form room b (defines o k q) after
      definition_found q after h = at_means.finds q after h

-- Redefinitions of modes.
abbrev pub redefined_5 : Form MarkedToken
redefined_5 = keyword keywords.Semicolon

abbrev pub redefined_4 : Option ResultTree → Form MarkedToken
redefined_4 r = then (mode_meaning (is_some r)) (λ _. redefined_5)

abbrev pub redefined_3 : Form MarkedToken
redefined_3 = then optional_result redefined_4

abbrev pub redefined_2 : Form MarkedToken
redefined_2 = then mode_pattern_form (λ _. redefined_3)

abbrev pub redefined_1 : Form MarkedToken
redefined_1 = then (word_form (codes "mode")) (λ _. redefined_2)

pub redefined_apart_1 : Apart (word_form (codes "mode")) (λ _. redefined_2)
redefined_apart_1 = apart_closed (word_form (codes "mode")) (λ _. redefined_2) (λ a t. refl)

redefined_unsigned : Unsigned redefined_3
redefined_unsigned y t m is e = result_unsigned (mode_meaning (is_some y.0)) (mode_meaning_is_meant (is_some y.0)) (y.0, y.1) t m is e

pub redefined_apart_2 : Apart mode_pattern_form (λ _. redefined_3)
redefined_apart_2 = apart_unsigned mode_pattern_form redefined_3 goes_on_pattern (λ a t is g. g) refl redefined_unsigned

pub redefined_apart_3 : Apart optional_result redefined_4
redefined_apart_3 o k s x iso isk e g = result_apart (mode_meaning (is_some o)) (mode_meaning_is_meant (is_some o)) o k s x iso isk e g

pub redefined_apart_4 : (r : Option ResultTree) → Apart (mode_meaning (is_some r)) (λ _. redefined_5)
redefined_apart_4 r = meant_apart (mode_meaning (is_some r)) (mode_meaning_is_meant (is_some r))

abbrev pub make_redefined : redefined_1.Tree → ModeHeadingTree (Option MeaningTree)
make_redefined k = record { mode = k.0; pattern = k.1.0; result = k.1.1.0; meaning = k.1.1.1.0; semicolon = k.1.1.1.1 }

pub only_redefined : (x : ModeHeadingTree (Option MeaningTree)) → redefined_mode_form.IsTree x → (k : redefined_1.Tree) × redefined_1.IsTree k × (x ≡ make_redefined k)
only_redefined x is = ((x.mode, (x.pattern, (x.result, (x.meaning, x.semicolon)))), (tt, (tt, (is.0.0, (meaning_from x.result x.meaning is.0.1 is.1, tt)))), refl)

redefined_into : (k : redefined_1.Tree) → redefined_1.IsTree k → redefined_mode_form.IsTree (make_redefined k)
redefined_into k is = let m = meaning_into k.1.1.0 k.1.1.1.0 is.1.1.1.0 in ((is.1.1.0, m.0), m.1)

ends_redefined : Ends redefined_1
ends_redefined = ends_then (word_form (codes "mode")) (λ _. redefined_2) (λ _. ends_then mode_pattern_form (λ _. redefined_3) (λ _. ends_then optional_result redefined_4 (λ r. ends_then (mode_meaning (is_some r)) (λ _. redefined_5) (λ _. ends_key keywords.Semicolon))))

redefined_spells : (k : redefined_1.Tree) → redefined_mode_form.spell (make_redefined k) ≡ redefined_1.spell k
redefined_spells k = ap (λ z. word_token (codes "mode") k.0 ∷ z) (append-grouped (mode_pattern_form.spell k.1.0) (optional_result.spell k.1.1.0) ((mode_meaning (is_some k.1.1.0)).spell k.1.1.1.0) (key keywords.Semicolon k.1.1.1.1 ∷ []))

redefined_levels : (k : redefined_1.Tree) → redefined_mode_form.levels (make_redefined k) ≡ redefined_1.levels k
redefined_levels k = ap (λ z. 0 ∷ z) (append-grouped (mode_pattern_form.levels k.1.0) (optional_result.levels k.1.1.0) ((mode_meaning (is_some k.1.1.0)).levels k.1.1.1.0) (0 ∷ []))

pub as_redefined : (b : List MarkedToken) → Reshapes redefined_mode_form redefined_1 make_redefined b
as_redefined b = record {
  into = λ k is. redefined_into k is;
  spells = λ k is. redefined_spells k;
  only = λ x is g. only_redefined x is;
  goes = λ k t is g. absurd (ends_redefined.closed k t is g);
  level = λ k is. redefined_levels k;
}

begin_redefined : (room : ℕ) (b : List MarkedToken) → Leads redefined_mode_form redefined_1 room make_redefined b b
begin_redefined room b = leads_as redefined_mode_form redefined_1 make_redefined room b (as_redefined b)

pub redefined_refused_1 : (room : ℕ) (b after : List MarkedToken) (e : Refusal) → Refuses (word_form (codes "mode")) room b e after → Refuses redefined_mode_form room b e after
redefined_refused_1 room b after e h = stopped redefined_mode_form (word_form (codes "mode")) (λ _. redefined_2) redefined_apart_1 room b b make_redefined (begin_redefined room b) after e (λ a is. ((some_mode_pattern, (None, (Some some_meaning, nowhere))), (tt, (tt, (((tt, tt), tt), tt))))) h

module _ (room : ℕ) (b : List MarkedToken) where
  module _ (x1 : Place) (c1 : List MarkedToken) (h1 : Found (word_form (codes "mode")) room b x1 c1) where
    redefined_at_1 : Leads redefined_mode_form redefined_2 room (λ k. make_redefined (x1, k)) b c1
    redefined_at_1 = next redefined_mode_form (word_form (codes "mode")) (λ _. redefined_2) redefined_apart_1 room b b make_redefined (begin_redefined room b) x1 c1 h1

    pub redefined_refused_2 : (after : List MarkedToken) (e : Refusal) → Refuses mode_pattern_form room c1 e after → Refuses redefined_mode_form room b e after
    redefined_refused_2 after e h = stopped redefined_mode_form mode_pattern_form (λ _. redefined_3) redefined_apart_2 room b c1 (λ k. make_redefined (x1, k)) redefined_at_1 after e (λ a is. ((None, (Some some_meaning, nowhere)), (tt, (((tt, tt), tt), tt)))) h

    module _ (x2 : ModePatternTree) (c2 : List MarkedToken) (h2 : Found mode_pattern_form room c1 x2 c2) where
      redefined_at_2 : Leads redefined_mode_form redefined_3 room (λ k. make_redefined (x1, (x2, k))) b c2
      redefined_at_2 = next redefined_mode_form mode_pattern_form (λ _. redefined_3) redefined_apart_2 room b c1 (λ k. make_redefined (x1, k)) redefined_at_1 x2 c2 h2

      pub redefined_refused_3 : (after : List MarkedToken) (e : Refusal) → Refuses optional_result room c2 e after → Refuses redefined_mode_form room b e after
      redefined_refused_3 after e h = stopped redefined_mode_form optional_result redefined_4 redefined_apart_3 room b c2 (λ k. make_redefined (x1, (x2, k))) redefined_at_2 after e (λ a is. ((Some some_meaning, nowhere), (some_stated (is_some a), tt))) h

      module _ (x3 : Option ResultTree) (c3 : List MarkedToken) (h3 : Found optional_result room c2 x3 c3) where
        redefined_at_3 : Leads redefined_mode_form (redefined_4 x3) room (λ k. make_redefined (x1, (x2, (x3, k)))) b c3
        redefined_at_3 = next redefined_mode_form optional_result redefined_4 redefined_apart_3 room b c2 (λ k. make_redefined (x1, (x2, k))) redefined_at_2 x3 c3 h3

        pub redefined_refused_4 : (after : List MarkedToken) (e : Refusal) → Refuses (mode_meaning (is_some x3)) room c3 e after → Refuses redefined_mode_form room b e after
        redefined_refused_4 after e h = stopped redefined_mode_form (mode_meaning (is_some x3)) (λ _. redefined_5) (redefined_apart_4 x3) room b c3 (λ k. make_redefined (x1, (x2, (x3, k)))) redefined_at_3 after e (λ a is. (nowhere, tt)) h

        module _ (x4 : Option MeaningTree) (c4 : List MarkedToken) (h4 : Found (mode_meaning (is_some x3)) room c3 x4 c4) where
          redefined_at_4 : Leads redefined_mode_form redefined_5 room (λ k. make_redefined (x1, (x2, (x3, (x4, k))))) b c4
          redefined_at_4 = next redefined_mode_form (mode_meaning (is_some x3)) (λ _. redefined_5) (redefined_apart_4 x3) room b c3 (λ k. make_redefined (x1, (x2, (x3, k)))) redefined_at_3 x4 c4 h4

          pub redefined_refused_5 : (after : List MarkedToken) (e : Refusal) → Refuses redefined_5 room c4 e after → Refuses redefined_mode_form room b e after
          redefined_refused_5 after e h = passes redefined_mode_form redefined_5 room (λ k. make_redefined (x1, (x2, (x3, (x4, k))))) b c4 after e redefined_at_4 h

          pub redefined_found : (x5 : Place) (after : List MarkedToken) → Found redefined_5 room c4 x5 after → Found redefined_mode_form room b (make_redefined (x1, (x2, (x3, (x4, x5))))) after
          redefined_found x5 after h = redefined_at_4.finds x5 after h

-- The heading of a mode, from what stands behind its pattern.
pub gives_rest : (room : ℕ) (b : List MarkedToken) (p : Place) (c : List MarkedToken) (m : ModePatternTree) (d after : List MarkedToken) (result : Result HeadingTree Refusal) → Found (word_form (codes "mode")) room b p c → Found mode_pattern_form room c m d → ReadsModeRest room p m d result after → Reads mode_form room plainly b result after
gives_rest room b p c m d after (Ok x) h1 h2 k = let F : HeadingTree → Type 0 = λ z. Found mode_form room b z after in subst F (sym k.2) (mode_found room b p c h1 m d h2 k.0 after k.1)
gives_rest room b p c m d after (Err e) h1 h2 r = mode_refused_3 room b p c h1 m d h2 after e r

-- What is written, though it might be left out.
as_stated : (b : List MarkedToken) → Reshapes (stated means_form) means_form Some b
as_stated b = record {
  into = λ x is. is;
  spells = λ x is. refl;
  only = λ o is g. only o is;
  goes = λ x t is g. g;
  level = λ x is. refl;
}
  where
    only : (o : Option MeaningTree) → (stated means_form).IsTree o → (x : MeaningTree) × means_form.IsTree x × (o ≡ Some x)
    only None is = absurd is
    only (Some x) is = (x, is, refl)

pub stated_read : (room : ℕ) (b after : List MarkedToken) (x : MeaningTree) → Found means_form room b x after → Found (stated means_form) room b (Some x) after
stated_read room b after x h = (leads_as (stated means_form) means_form Some room b (as_stated b)).finds x after h

pub stated_unread : (room : ℕ) (b after : List MarkedToken) (e : Refusal) → Refuses means_form room b e after → Refuses (stated means_form) room b e after
stated_unread room b after e h = passes (stated means_form) means_form room Some b b after e (leads_as (stated means_form) means_form Some room b (as_stated b)) h

-- The meaning of a redefined mode, whether its type was written or not.
pub meaning_found_at : (now given : Bool) → now ≡ given → (room : ℕ) (b after : List MarkedToken) (x : Option MeaningTree) → Found (mode_meaning now) room b x after → Found (mode_meaning given) room b x after
meaning_found_at now given e room b after x h = let F : Bool → Type 0 = λ z. Found (mode_meaning z) room b x after in subst F e h

pub meaning_refused_at : (now given : Bool) → now ≡ given → (room : ℕ) (b after : List MarkedToken) (r : Refusal) → Refuses (mode_meaning now) room b r after → Refuses (mode_meaning given) room b r after
meaning_refused_at now given e room b after r h = let F : Bool → Type 0 = λ z. Refuses (mode_meaning z) room b r after in subst F e h
