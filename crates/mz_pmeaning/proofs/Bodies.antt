-- What the bodies of definientia have in common, and what the parts behind patterns have.
use Rattle.std.specs.Prelude.{codes}
use Rattle.std.proofs.Common.{◌≡◌, ℕ, true, false, ◌||◌, List, [], ◌∷◌, refl, sym, ap, ◌∙◌, None}
use Rattle.mz_base.specs.declared.place.Place.{Place}
use Rattle.mz_base.specs.declared.token.MarkedToken.{MarkedToken}
use Rattle.mz_forms.specs.Form.{Form}
use Rattle.mz_forms.proofs.Compose.{append_nil}
use Rattle.mz_forms.proofs.One.{One}
use Rattle.mz_pterm.specs.declared.sign.Sign.TheVariants as signs
use Rattle.mz_pterm.specs.Classes.{goes_on_term, is_list_comma}
use Rattle.mz_pterm.specs.Sign.{sign_of, reserved_sign, formula_sign}
use Rattle.mz_pterm.proofs.Bases.{term_at}
use Rattle.mz_pterm.proofs.Operands.{term_filled}
use Rattle.mz_pterm.proofs.Unique.{terms_one}
use Rattle.mz_ptype.proofs.Optional.{never}
use Rattle.mz_patom.specs.Classes.{begins_term, goes_open}
use Rattle.mz_patom.proofs.Parts.{term_first}
use Rattle.mz_patom.proofs.Tails.{terms_on}
use Rattle.mz_pformula.specs.Forms.{any_operator, formula_takes}
use Rattle.mz_pformula.proofs.Openings.{atom_goes}
use Rattle.mz_pformula.proofs.Operators.{goes_weaker}
use Rattle.mz_pformula.proofs.Quantifiers.{some_formula}
use Rattle.mz_pformula.proofs.UniqueFormulas.{formulas_one}
use Rattle.mz_pjustification.specs.declared.keyword.Keyword.TheVariants as keywords
use Rattle.mz_pjustification.specs.Words.{key}
use Rattle.mz_pjustification.proofs.Keywords.{sign_of-key}
use Rattle.mz_pjustification.proofs.Taken.{nowhere}
use Rattle.mz_pproposition.proofs.Formulas.{formula_filled}
use Rattle.mz_pproposition.proofs.PropositionSteps.{proposition_first}
use Rattle.mz_ppattern.specs.Words.{is_arrow, is_word, word_token}
use Rattle.mz_ppattern.proofs.WordSteps.{word_signed}
use Rattle.mz_pmeaning.specs.Classes.{goes_on_cases, goes_on_meaning}
use Rattle.mz_pmeaning.specs.CaseForms.{formula_body, term_body}
use Rattle.mz_pmeaning.proofs.Steps.{or_left}

-- What goes on a body goes on a formula, and each body has a token, the first with a sign.
pub record IsBody (B : Form MarkedToken) : Type 0 where
  pub filled : (x : B.Tree) → B.IsTree x → B.spell x ≡ [] → ⊥
  pub first : (x : B.Tree) (t : MarkedToken) (m : List MarkedToken) → B.IsTree x → B.spell x ≡ t ∷ m → sign_of t ≡ signs.Other → ⊥
  pub goes : (x : B.Tree) (t : MarkedToken) → B.IsTree x → B.goes x t ≡ true → goes_open any_operator (sign_of t) ≡ true
  pub some : B.Tree
  pub some_is : B.IsTree some
  pub one : (n : ℕ) → One n B

pub formula_is_body : IsBody formula_body
formula_is_body = record {
  filled = λ x is e. formula_filled x is e;
  first = λ x t m is e h. proposition_first None x t m is e h;
  goes = λ x t is g. goes_weaker (formula_takes x) any_operator (λ o h. refl) (sign_of t) g;
  some = some_formula;
  some_is = ((tt, tt), tt);
  one = λ n. (formulas_one false n).formulas;
}

pub term_is_body : IsBody term_body
term_is_body = record {
  filled = λ x is e. term_filled false x [] is (append_nil (term_body.spell x) ∙ e);
  first = λ x t m is e h. never (sym (ap begins_term h) ∙ term_first false x [] t m is (append_nil (term_body.spell x) ∙ e));
  goes = λ x t is g. atom_goes any_operator (sign_of t) (terms_on (sign_of t) (or_left (goes_on_term (sign_of t)) (is_list_comma (sign_of t)) g));
  some = term_at nowhere;
  some_is = (tt, tt);
  one = λ n. (terms_one false n).terms;
}

-- Words of headings have no sign.
pub if_signed : (p : Place) → sign_of (word_token (codes "if") p) ≡ signs.Other
unfolding reserved_sign formula_sign
if_signed p = word_signed (codes "if") p refl

pub otherwise_signed : (p : Place) → sign_of (word_token (codes "otherwise") p) ≡ signs.Other
unfolding reserved_sign formula_sign
otherwise_signed p = word_signed (codes "otherwise") p refl

pub equals_signed : (p : Place) → sign_of (word_token (codes "equals") p) ≡ signs.Other
unfolding reserved_sign formula_sign
equals_signed p = word_signed (codes "equals") p refl

-- the semicolon goes on no definiens
pub semicolon_off : (p : Place) → goes_on_meaning (key keywords.Semicolon p) ≡ false
semicolon_off p = ap (λ s. goes_on_cases s || (is_word (codes "if") (key keywords.Semicolon p) || is_word (codes "otherwise") (key keywords.Semicolon p))) (sign_of-key keywords.Semicolon p refl)

-- What a definition says is told from what stands before it, and a semicolon ends it.
pub record IsMeant (M : Form MarkedToken) : Type 0 where
  pub first : (x : M.Tree) (t : MarkedToken) (m : List MarkedToken) → M.IsTree x → M.spell x ≡ t ∷ m → (sign_of t ≡ signs.Other) × (is_arrow t ≡ false)
  pub ends : (x : M.Tree) (p : Place) → M.IsTree x → M.goes x (key keywords.Semicolon p) ≡ true → ⊥
  pub some : M.Tree
  pub some_is : M.IsTree some
