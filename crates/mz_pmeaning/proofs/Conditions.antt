-- Conditions: formulas on which a list comma goes only where a list of terms stands last.
use Rattle.std.proofs.Common.{◌≡◌, ℕ, true, false, List, [], ◌∷◌, ◌++◌, refl, sym, ap, ◌∙◌, append_assoc}
use Rattle.mz_base.specs.declared.token.MarkedToken.{MarkedToken}
use Rattle.mz_forms.specs.declared.refusal.Refusal.{Refusal}
use Rattle.mz_forms.specs.declared.refusal.Refusal.TheVariants as refusals
use Rattle.mz_forms.specs.Form.{Agrees, Found, Fails, Deeper}
use Rattle.mz_forms.specs.Reading.{Refuses}
use Rattle.mz_forms.proofs.Compose.{nothing_more}
use Rattle.mz_tree.specs.Spelled.{list_comma}
use Rattle.mz_tree.specs.Trees.{FormulaData}
use Rattle.mz_tree.specs.Spell.{spell_formula}
use Rattle.mz_tree.specs.Rules.{IsFormula}
use Rattle.mz_tree_heading.specs.Rules.{formula_ends_in_terms}
use Rattle.mz_pterm.specs.declared.sign.Sign.{Sign}
use Rattle.mz_pterm.specs.declared.sign.Sign.TheVariants as signs
use Rattle.mz_pterm.specs.Sign.{sign_of}
use Rattle.mz_pterm.proofs.Signs.{told_fixed}
use Rattle.mz_patom.specs.Classes.{goes_open}
use Rattle.mz_pformula.specs.Forms.{formula_takes, formula_form}
use Rattle.mz_comma_laws.proofs.Formulas.{behind_terms_alone}
use Rattle.mz_comma_laws.proofs.Longer.{behind_terms_always}
use Rattle.mz_pmeaning.specs.Classes.{goes_condition, NoComma}
use Rattle.mz_pmeaning.specs.CaseForms.{condition_form}

goes_so : (f : FormulaData) (s : Sign) → goes_open (formula_takes f) s ≡ true → (s ≡ signs.ListComma → formula_ends_in_terms f ≡ true) → goes_condition f s ≡ true
goes_so f signs.ListComma g h = h refl
goes_so f _ g h = g

-- a formula that the token takes to a longer one
extends : (f whole : FormulaData) (t : MarkedToken) (more : List MarkedToken) → IsFormula false f → IsFormula false whole → spell_formula whole ≡ spell_formula f ++ t ∷ more → goes_open (formula_takes f) (sign_of t) ≡ true → goes_condition f (sign_of t) ≡ true
extends f whole t more isf isw e g = goes_so f (sign_of t) g (λ h. behind_terms_alone false f whole t.token.place more isf isw (e ∙ ap (λ z. spell_formula f ++ z ∷ more) (told_fixed signs.ListComma t refl h)))

-- What was read as a formula was read as a condition.
pub condition_found : (room : ℕ) (b after : List MarkedToken) (f : FormulaData) → Found (formula_form false) room b f after → Found condition_form room b f after
condition_found room b after f h = record {
  found = record {
    split = h.found.split;
    is = h.found.is;
    only = h.found.only;
    passed = λ other t more is e. extends other f t more is h.found.is e (h.found.passed other t more is e);
  };
  fits = h.fits;
}

condition_fails : (room : ℕ) (b after : List MarkedToken) → Fails (formula_form false) room b after → Fails condition_form room b after
condition_fails room b after h = record {
  front = h.front;
  split = h.split;
  some = h.some;
  more = h.more;
  is = h.is;
  viable = h.viable;
  fits = h.fits;
  none = h.none;
  passed = λ other t more is e. extends other h.some t (more ++ h.more) is h.is
      (h.viable ∙ (ap (λ z. z ++ h.more) e ∙ append_assoc (spell_formula other) (t ∷ more) h.more)) (h.passed other t more is e);
}

condition_deeper : (room : ℕ) (b after : List MarkedToken) → Deeper (formula_form false) room b after → Deeper condition_form room b after
condition_deeper room b after h = record {
  front = h.front;
  tok = h.tok;
  rest = h.rest;
  split = h.split;
  here = h.here;
  some = h.some;
  more = h.more;
  is = h.is;
  viable = h.viable;
  fits = h.fits;
  all = h.all;
  passed = λ other t more is e. extends other h.some t (more ++ h.more) is h.is
      (h.viable ∙ (sym (append_assoc h.front (h.tok ∷ []) h.more) ∙ (ap (λ z. z ++ h.more) e ∙ append_assoc (spell_formula other) (t ∷ more) h.more))) (h.passed other t more is e);
}

pub condition_refused : (room : ℕ) (b after : List MarkedToken) (e : Refusal) → Refuses (formula_form false) room b e after → Refuses condition_form room b e after
condition_refused room b after refusals.Refused h = condition_fails room b after h
condition_refused room b after refusals.TooDeep h = condition_deeper room b after h
condition_refused room b after refusals.Memory h = tt

-- Behind a list of terms no list comma comes next: it would have been taken.
no_nil : (t : MarkedToken) (x : List MarkedToken) → t ∷ x ≡ [] → ⊥
no_nil t x e = cc

agrees_on : (b : List MarkedToken) (t : MarkedToken) (x : List MarkedToken) → Agrees b (t ∷ []) → Agrees b (t ∷ x)
agrees_on [] t x h = h
agrees_on (s ∷ b) t x h = h

pub no_comma : (room : ℕ) (b after : List MarkedToken) (f : FormulaData) → Found (formula_form false) room b f after → NoComma f after
no_comma room b after f h ends p agrees =
    let k = behind_terms_always false f p h.found.is ends in
    let same : k.0 ≡ f = h.found.only k.0 (list_comma p ∷ k.1) k.2 k.3 (agrees_on after (list_comma p) k.1 agrees) in
    no_nil (list_comma p) k.1 (nothing_more (spell_formula f) (list_comma p ∷ k.1) (ap spell_formula (sym same) ∙ k.3))
