-- An opening that has to be a unit: terms with no predicate behind them are none.
use Rattle.std.proofs.Common.{◌≡◌, ℕ, ◌+◌, ◌≤◌, Bool, List, [], ◌∷◌, ◌++◌, refl, ap, ◌∙◌, append_assoc, arith, length, length-append}
use Rattle.mz_base.specs.declared.token.MarkedToken.{MarkedToken}
use Rattle.mz_forms.specs.declared.refusal.Refusal.{Refusal}
use Rattle.mz_forms.specs.declared.refusal.Refusal.TheVariants as refusals
use Rattle.mz_forms.specs.Form.{Found, Fails, Deeper, Fits, level}
use Rattle.mz_forms.specs.Reading.{Refuses}
use Rattle.mz_forms.proofs.Compose.{level_first}
use Rattle.mz_tree.specs.Trees.{TermsData, UnitData, PredicateLeftUnit}
use Rattle.mz_tree.specs.Spell.{spell_terms, spell_unit}
use Rattle.mz_tree.specs.Levels.{levels_terms}
use Rattle.mz_tree.specs.Rules.{IsUnit}
use Rattle.mz_pterm.specs.declared.sign.Sign.TheVariants as signs
use Rattle.mz_pterm.specs.Words.{named, name}
use Rattle.mz_pterm.specs.Forms.{terms_form}
use Rattle.mz_pterm.proofs.Bases.{word_at}
use Rattle.mz_ptype.proofs.AdjectiveSteps.{nowhere}
use Rattle.mz_patom.specs.Forms.{Opening, unit_opening, terms_opening, spell_opening, IsOpening, opening_form, unit_form}

pub as_unit : (field : Bool) (room : ℕ) (b after : List MarkedToken) (u : UnitData) → Found (opening_form field) room b (unit_opening u) after → Found (unit_form field) room b u after
as_unit field room b after u h = record {
  found = record {
    split = h.found.split;
    is = h.found.is;
    only = λ v m is e agrees. inner v (h.found.only (unit_opening v) m is e agrees);
    passed = λ v t m is e. h.found.passed (unit_opening v) t m is e;
  };
  fits = h.fits;
}
  where
    inner : (v : UnitData) → unit_opening v ≡ unit_opening u → v ≡ u
    inner v e = cc

-- terms with a predicate symbol behind them, whose levels are those of the terms as far as they go
abbrev completed : TermsData → UnitData
completed ts = PredicateLeftUnit ts (word_at nowhere)

abbrev end_token : MarkedToken
end_token = named signs.Predicate (word_at nowhere)

completed_fits : (field : Bool) (room : ℕ) (ts : TermsData) (n : ℕ) → n ≤ length (spell_terms ts) → Fits (terms_form field) room ts n → Fits (unit_form field) room (completed ts) n
completed_fits field room ts n within h i l =
    let w : length (levels_terms ts) ≡ length (spell_terms ts) = (terms_form field).each ts in
    let e : level (unit_form field) (completed ts) i ≡ level (terms_form field) ts i = level_first (terms_form field) (λ _. name signs.Predicate) ts (word_at nowhere) i (omega (arith, l, within)) in
    let f : level (terms_form field) ts i ≤ room = h i l in omega (arith, e, f)

pub no_unit : (field : Bool) (room : ℕ) (b after : List MarkedToken) (ts : TermsData) → Found (opening_form field) room b (terms_opening ts) after → Fails (unit_form field) room b after
no_unit field room b after ts h = record {
  front = spell_terms ts;
  split = h.found.split;
  some = completed ts;
  more = end_token ∷ [];
  is = h.found.is;
  viable = refl;
  fits = completed_fits field room ts (length (spell_terms ts)) (omega arith) h.fits;
  none = λ v m is e agrees. differ v (h.found.only (unit_opening v) m is e agrees);
  passed = λ v t m is e. h.found.passed (unit_opening v) t m is e;
}
  where
    differ : (v : UnitData) → unit_opening v ≡ terms_opening ts → ⊥
    differ v e = cc

front_within : (w front more : List MarkedToken) → w ≡ front ++ more → length front ≤ length w
front_within w front more e = let f : length w ≡ length front + length more = ap length e ∙ length-append front more in omega (arith, f)

-- a unit that begins as an opening does
unit_fails : (field : Bool) (room : ℕ) (b after : List MarkedToken) → Fails (opening_form field) room b after → Fails (unit_form field) room b after
unit_fails field room b after fails = go fails.some fails.is fails.viable fails.fits
  where
    made : (u : UnitData) (m : List MarkedToken) → IsUnit field u → spell_unit u ≡ fails.front ++ m → Fits (unit_form field) room u (length fails.front) → Fails (unit_form field) room b after
    made u m is e fit = record {
      front = fails.front;
      split = fails.split;
      some = u;
      more = m;
      is = is;
      viable = e;
      fits = fit;
      none = λ v m is e agrees. fails.none (unit_opening v) m is e agrees;
      passed = λ v t m is e. fails.passed (unit_opening v) t m is e;
    }

    go : (o : Opening) → IsOpening field o → spell_opening o ≡ fails.front ++ fails.more → Fits (opening_form field) room o (length fails.front) → Fails (unit_form field) room b after
    go (unit_opening u) is e fit = made u fails.more is e fit
    go (terms_opening ts) is e fit = made (completed ts) (fails.more ++ end_token ∷ []) is (ap (λ z. z ++ end_token ∷ []) e ∙ append_assoc fails.front fails.more (end_token ∷ []))
        (completed_fits field room ts (length fails.front) (front_within (spell_terms ts) fails.front fails.more e) fit)

unit_deeper : (field : Bool) (room : ℕ) (b after : List MarkedToken) → Deeper (opening_form field) room b after → Deeper (unit_form field) room b after
unit_deeper field room b after d = go d.some d.is d.viable d.fits
  where
    made : (u : UnitData) (m : List MarkedToken) → IsUnit field u → spell_unit u ≡ d.front ++ d.tok ∷ m → Fits (unit_form field) room u (length d.front) → Deeper (unit_form field) room b after
    made u m is e fit = record {
      front = d.front;
      tok = d.tok;
      rest = d.rest;
      split = d.split;
      here = d.here;
      some = u;
      more = m;
      is = is;
      viable = e;
      fits = fit;
      all = λ v m is e. d.all (unit_opening v) m is e;
      passed = λ v t m is e. d.passed (unit_opening v) t m is e;
    }

    go : (o : Opening) → IsOpening field o → spell_opening o ≡ d.front ++ d.tok ∷ d.more → Fits (opening_form field) room o (length d.front) → Deeper (unit_form field) room b after
    go (unit_opening u) is e fit = made u d.more is e fit
    go (terms_opening ts) is e fit = made (completed ts) (d.more ++ end_token ∷ []) is (ap (λ z. z ++ end_token ∷ []) e ∙ append_assoc d.front (d.tok ∷ d.more) (end_token ∷ []))
        (completed_fits field room ts (length d.front) (front_within (spell_terms ts) d.front (d.tok ∷ d.more) e) fit)

pub unit_refuses : (field : Bool) (room : ℕ) (b after : List MarkedToken) (e : Refusal) → Refuses (opening_form field) room b e after → Refuses (unit_form field) room b e after
unit_refuses field room b after refusals.Refused h = unit_fails field room b after h
unit_refuses field room b after refusals.TooDeep h = unit_deeper field room b after h
unit_refuses field room b after refusals.Memory h = tt
