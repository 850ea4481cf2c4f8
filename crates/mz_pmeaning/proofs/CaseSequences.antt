-- The readings of cases and of what stands behind `otherwise`.
use Rattle.std.specs.Prelude.{codes}
use Rattle.std.proofs.Common.{◌≡◌, ℕ, false, List, refl}
use Rattle.mz_base.specs.declared.token.MarkedToken.{MarkedToken}
use Rattle.mz_forms.specs.declared.refusal.Refusal.{Refusal}
use Rattle.mz_forms.specs.Form.{Form, Found, Leads, is_empty, then}
use Rattle.mz_forms.specs.Reading.{Refuses}
use Rattle.mz_forms.proofs.Choose.{Reshapes}
use Rattle.mz_forms.proofs.Compose.{Apart}
use Rattle.mz_forms.proofs.Leads.{leads_as, apart_closed, passes}
use Rattle.mz_tree.specs.Spell.{spell_formula}
use Rattle.mz_pterm.specs.Sign.{sign_of}
use Rattle.mz_ptype.proofs.Optional.{never}
use Rattle.mz_patom.specs.Classes.{goes_open}
use Rattle.mz_pformula.specs.Forms.{any_operator}
use Rattle.mz_pformula.proofs.Quantifiers.{some_formula}
use Rattle.mz_pjustification.proofs.Taken.{nowhere, or_goes}
use Rattle.mz_ppattern.specs.Words.{word_form, word_token}
use Rattle.mz_pmeaning.specs.Classes.{goes_condition}
use Rattle.mz_pmeaning.specs.CaseForms.{case_form, condition_form, otherwise_form}
use Rattle.mz_pmeaning.proofs.Bodies.{IsBody, if_signed}
use Rattle.mz_pmeaning.proofs.Steps.{next, stopped, apart_unsigned, sign_of-unsigned_then, or_next}

module _ (B : Form MarkedToken) (body : IsBody B) where
  -- case
  abbrev pub case_3 : Form MarkedToken
  case_3 = condition_form

  abbrev pub case_2 : Form MarkedToken
  case_2 = then (word_form (codes "if")) (λ _. case_3)

  abbrev pub case_1 : Form MarkedToken
  case_1 = then B (λ _. case_2)

  pub case_apart_1 : Apart B (λ _. case_2)
  case_apart_1 = apart_unsigned B case_2 (goes_open any_operator) (λ a t is g. body.goes a t is g) refl (λ y t m is e. sign_of-unsigned_then (word_token (codes "if")) (λ _. condition_form) if_signed y t m e)

  pub case_apart_2 : Apart (word_form (codes "if")) (λ _. case_3)
  case_apart_2 = apart_closed (word_form (codes "if")) (λ _. case_3) (λ a t. refl)

  abbrev pub make_case : case_1.Tree → (case_form B).Tree
  make_case k = record { body = k.0; if_ = k.1.0; condition = k.1.1 }

  pub only_case : (x : (case_form B).Tree) → (case_form B).IsTree x → (k : case_1.Tree) × case_1.IsTree k × (x ≡ make_case k)
  only_case x is = ((x.body, (x.if_, x.condition)), (is.0, (tt, is.1)), refl)

  pub as_case : (b : List MarkedToken) → Reshapes (case_form B) case_1 make_case b
  as_case b = record {
    into = λ k is. (is.0, is.1.1);
    spells = λ k is. refl;
    only = λ x is g. only_case x is;
    goes = λ k t is g. or_goes (goes_condition k.1.1 (sign_of t)) false (is_empty (spell_formula k.1.1)) (goes_condition k.1.1 (sign_of t)) (λ h. h) (λ h. absurd (never h)) (or_next (case_2.goes k.1 t) (B.goes k.0 t) (is_empty (case_2.spell k.1)) refl g);
    level = λ k is. refl;
  }

  begin_case : (room : ℕ) (b : List MarkedToken) → Leads (case_form B) case_1 room make_case b b
  begin_case room b = leads_as (case_form B) case_1 make_case room b (as_case b)

  pub case_refused_1 : (room : ℕ) (b after : List MarkedToken) (e : Refusal) → Refuses B room b e after → Refuses (case_form B) room b e after
  case_refused_1 room b after e h = stopped (case_form B) B (λ _. case_2) case_apart_1 room b b make_case (begin_case room b) after e (λ a is. ((nowhere, some_formula), (tt, ((tt, tt), tt)))) h

  module _ (room : ℕ) (b : List MarkedToken) where
    module _ (x1 : B.Tree) (c1 : List MarkedToken) (h1 : Found B room b x1 c1) where
      case_at_1 : Leads (case_form B) case_2 room (λ k. make_case (x1, k)) b c1
      case_at_1 = next (case_form B) B (λ _. case_2) case_apart_1 room b b make_case (begin_case room b) x1 c1 h1

      pub case_refused_2 : (after : List MarkedToken) (e : Refusal) → Refuses (word_form (codes "if")) room c1 e after → Refuses (case_form B) room b e after
      case_refused_2 after e h = stopped (case_form B) (word_form (codes "if")) (λ _. case_3) case_apart_2 room b c1 (λ k. make_case (x1, k)) case_at_1 after e (λ a is. (some_formula, ((tt, tt), tt))) h

      module _ (x2 : (word_form (codes "if")).Tree) (c2 : List MarkedToken) (h2 : Found (word_form (codes "if")) room c1 x2 c2) where
        case_at_2 : Leads (case_form B) case_3 room (λ k. make_case (x1, (x2, k))) b c2
        case_at_2 = next (case_form B) (word_form (codes "if")) (λ _. case_3) case_apart_2 room b c1 (λ k. make_case (x1, k)) case_at_1 x2 c2 h2

        pub case_refused_3 : (after : List MarkedToken) (e : Refusal) → Refuses condition_form room c2 e after → Refuses (case_form B) room b e after
        case_refused_3 after e h = passes (case_form B) case_3 room (λ k. make_case (x1, (x2, k))) b c2 after e case_at_2 h

        pub case_found : (x3 : condition_form.Tree) (after : List MarkedToken) → Found condition_form room c2 x3 after → Found (case_form B) room b (make_case (x1, (x2, x3))) after
        case_found x3 after h = case_at_2.finds x3 after h

  -- otherwise
  abbrev pub otherwise_2 : Form MarkedToken
  otherwise_2 = B

  abbrev pub otherwise_1 : Form MarkedToken
  otherwise_1 = then (word_form (codes "otherwise")) (λ _. otherwise_2)

  pub otherwise_apart_1 : Apart (word_form (codes "otherwise")) (λ _. otherwise_2)
  otherwise_apart_1 = apart_closed (word_form (codes "otherwise")) (λ _. otherwise_2) (λ a t. refl)

  abbrev pub make_otherwise : otherwise_1.Tree → (otherwise_form B).Tree
  make_otherwise k = record { otherwise = k.0; body = k.1 }

  pub only_otherwise : (x : (otherwise_form B).Tree) → (otherwise_form B).IsTree x → (k : otherwise_1.Tree) × otherwise_1.IsTree k × (x ≡ make_otherwise k)
  only_otherwise x is = ((x.otherwise, x.body), (tt, is), refl)

  pub as_otherwise : (b : List MarkedToken) → Reshapes (otherwise_form B) otherwise_1 make_otherwise b
  as_otherwise b = record {
    into = λ k is. is.1;
    spells = λ k is. refl;
    only = λ x is g. only_otherwise x is;
    goes = λ k t is g. or_goes (B.goes k.1 t) false (is_empty (B.spell k.1)) (B.goes k.1 t) (λ h. h) (λ h. absurd (never h)) g;
    level = λ k is. refl;
  }

  begin_otherwise : (room : ℕ) (b : List MarkedToken) → Leads (otherwise_form B) otherwise_1 room make_otherwise b b
  begin_otherwise room b = leads_as (otherwise_form B) otherwise_1 make_otherwise room b (as_otherwise b)

  pub otherwise_refused_1 : (room : ℕ) (b after : List MarkedToken) (e : Refusal) → Refuses (word_form (codes "otherwise")) room b e after → Refuses (otherwise_form B) room b e after
  otherwise_refused_1 room b after e h = stopped (otherwise_form B) (word_form (codes "otherwise")) (λ _. otherwise_2) otherwise_apart_1 room b b make_otherwise (begin_otherwise room b) after e (λ a is. (body.some, body.some_is)) h

  module _ (room : ℕ) (b : List MarkedToken) where
    module _ (x1 : (word_form (codes "otherwise")).Tree) (c1 : List MarkedToken) (h1 : Found (word_form (codes "otherwise")) room b x1 c1) where
      otherwise_at_1 : Leads (otherwise_form B) otherwise_2 room (λ k. make_otherwise (x1, k)) b c1
      otherwise_at_1 = next (otherwise_form B) (word_form (codes "otherwise")) (λ _. otherwise_2) otherwise_apart_1 room b b make_otherwise (begin_otherwise room b) x1 c1 h1

      pub otherwise_refused_2 : (after : List MarkedToken) (e : Refusal) → Refuses B room c1 e after → Refuses (otherwise_form B) room b e after
      otherwise_refused_2 after e h = passes (otherwise_form B) otherwise_2 room (λ k. make_otherwise (x1, k)) b c1 after e otherwise_at_1 h

      pub otherwise_found : (x2 : B.Tree) (after : List MarkedToken) → Found B room c1 x2 after → Found (otherwise_form B) room b (make_otherwise (x1, x2)) after
      otherwise_found x2 after h = otherwise_at_1.finds x2 after h
