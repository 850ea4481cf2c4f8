-- The forms of units, and of what stands in parentheses: a formula, or terms.
use Rattle.std.specs.Prelude.{◌≡◌, ℕ, Bool, false, List, length, Result, Box}
use Rattle.std.specs.declared.alloc.Global.{Global}
use Rattle.mz_base.specs.declared.place.Place.{Place}
use Rattle.mz_base.specs.declared.token.MarkedToken.{MarkedToken}
use Rattle.mz_forms.specs.declared.refusal.Refusal.{Refusal}
use Rattle.mz_forms.specs.Form.{Form, Found, then, nested, nothing}
use Rattle.mz_forms.specs.Reading.{Gives, Builds}
use Rattle.mz_tree.specs.declared.nodes.UnitNode.{UnitNode}
use Rattle.mz_tree.specs.Trees.{TermsData, UnitData, FormulaData, QuantifiedData, GroupUnit, NotUnit, QuantifiedUnit}
use Rattle.mz_tree.specs.Spell.{spell_terms, spell_formula}
use Rattle.mz_tree.specs.Levels.{levels_terms, levels_formula, each_terms, each_formula}
use Rattle.mz_tree.specs.Rules.{Operator, takes_unit, AreTerms, IsFormula}
use Rattle.mz_tree.specs.Views.{terms_of}
use Rattle.mz_pterm.specs.declared.sign.Sign.TheVariants as signs
use Rattle.mz_pterm.specs.Sign.{sign_of}
use Rattle.mz_pterm.specs.Words.{word}
use Rattle.mz_patom.specs.declared.atoms.Opening as rust_opening
use Rattle.mz_patom.specs.Classes.{goes_open}
use Rattle.mz_patom.specs.Forms.{Opening, unit_opening, terms_opening, unit_form, opening_form, group_tail, make_group_tail, opening_of, unit_in}
use Rattle.mz_pformula.specs.declared.formulas.Inside as rust_inside
use Rattle.mz_pformula.specs.declared.formulas.Inside.TheVariants as insides
use Rattle.mz_pformula.specs.Classes.{NotTaken}
use Rattle.mz_pformula.specs.Quantified.{quantified_form}
use Rattle.mz_pformula.specs.Forms.{any_operator, unit_takes, behind_unit, conjunction_with, behind_conjunction, disjunction_with, conclusion, formula_with, formula_in}

-- `not` and a unit
abbrev pub not_form : Bool → Form MarkedToken
not_form field = then (nested (word signs.Not)) (λ _. nested (unit_form field))

abbrev pub negated : (Place × UnitData) → UnitData
negated k = NotUnit k.0 k.1

-- what stands in parentheses
pub data Inside : Type 0 where
  formula_inside : FormulaData → Inside
  terms_inside : TermsData → Inside

abbrev pub spell_inside : Inside → List MarkedToken
spell_inside (formula_inside f) = spell_formula f
spell_inside (terms_inside ts) = spell_terms ts

abbrev pub levels_inside : Inside → List ℕ
levels_inside (formula_inside f) = levels_formula f
levels_inside (terms_inside ts) = levels_terms ts

pub each_inside : (i : Inside) → length (levels_inside i) ≡ length (spell_inside i)
each_inside (formula_inside f) = each_formula f
each_inside (terms_inside ts) = each_terms ts

abbrev pub IsInside : Bool → Inside → Type 0
IsInside field (formula_inside f) = IsFormula field f
IsInside field (terms_inside ts) = AreTerms field ts

abbrev pub inside_form : Bool → Form MarkedToken
inside_form field = record { Tree = Inside; spell = spell_inside; levels = levels_inside; each = each_inside; IsTree = IsInside field; goes = λ _ t. goes_open any_operator (sign_of t) }

-- the formula that goes on with a unit
abbrev pub behind_units : Bool → UnitData → List (Place × UnitData) → Form MarkedToken
behind_units field u us = then (behind_conjunction field (conjunction_with u us)) (λ cs. conclusion field (disjunction_with (conjunction_with u us) cs))

abbrev pub rest_form : Bool → UnitData → Form MarkedToken
rest_form field u = then (behind_unit field u) (behind_units field u)

abbrev pub rest_with : (field : Bool) (u : UnitData) → (rest_form field u).Tree → FormulaData
rest_with field u k = formula_with (disjunction_with (conjunction_with u k.0) k.1.0) k.1.1

abbrev pub after_opening : Bool → Opening → Form MarkedToken
after_opening field (unit_opening u) = rest_form field u
after_opening field (terms_opening ts) = nothing

abbrev pub begun_inside : Bool → Form MarkedToken
begun_inside field = then (opening_form field) (after_opening field)

abbrev pub inside_with : (field : Bool) (o : Opening) → (after_opening field o).Tree → Inside
inside_with field (unit_opening u) k = formula_inside (rest_with field u k)
inside_with field (terms_opening ts) k = terms_inside ts

-- A parenthesis, which opens a formula or terms.
abbrev pub behind_inside : Bool → Place → Inside → Place → Form MarkedToken
behind_inside field p (formula_inside f) q = nothing
behind_inside field p (terms_inside ts) q = group_tail field p ts q

abbrev pub closed_inside : Bool → Place → Inside → Form MarkedToken
closed_inside field p i = then (word signs.Close) (behind_inside field p i)

abbrev pub opened_inside : Bool → Place → Form MarkedToken
opened_inside field p = then (nested (inside_form field)) (closed_inside field p)

abbrev pub parenthesis_form : Bool → Form MarkedToken
parenthesis_form field = then (nested (word signs.Open)) (opened_inside field)

abbrev pub closed_with : (field : Bool) (p : Place) (i : Inside) (q : Place) → (behind_inside field p i q).Tree → Opening
closed_with field p (formula_inside f) q k = unit_opening (GroupUnit p f q)
closed_with field p (terms_inside ts) q k = make_group_tail p ts q k

abbrev pub parenthesis_with : (field : Bool) → (parenthesis_form field).Tree → Opening
parenthesis_with field k = closed_with field k.0 k.1.0 k.1.1.0 k.1.1.1

-- What is read.
abbrev pub inside_of : rust_inside.Inside → Inside
inside_of (insides.Formula b) = formula_inside (formula_in b)
inside_of (insides.Terms c) = terms_inside (terms_of c)

-- behind a unit no operator comes that it would take
abbrev pub opening_takes : Opening → Operator → Bool
opening_takes (unit_opening u) o = takes_unit o u
opening_takes (terms_opening ts) o = false

abbrev pub ReadsOpening : Bool → ℕ → List MarkedToken → Result rust_opening.Opening Refusal → List MarkedToken → Type 0
ReadsOpening field room before result after = Gives (opening_form field) room (λ x. Found (opening_form field) room before (opening_of x) after × NotTaken (opening_takes (opening_of x)) after) before result after

abbrev pub ReadsParenthesis : Bool → ℕ → List MarkedToken → Result rust_opening.Opening Refusal → List MarkedToken → Type 0
ReadsParenthesis field room before result after = Gives (parenthesis_form field) room (λ x. Builds (parenthesis_form field) room (parenthesis_with field) (opening_of x) before after) before result after

abbrev pub ReadsNegation : Bool → ℕ → List MarkedToken → Result (Box UnitNode Global) Refusal → List MarkedToken → Type 0
ReadsNegation field room before result after = Gives (not_form field) room (λ x. Builds (not_form field) room negated (unit_in x) before after × NotTaken (unit_takes (unit_in x)) after) before result after

abbrev pub as_unit : QuantifiedData → Opening
as_unit q = unit_opening (QuantifiedUnit q)

abbrev pub ReadsQuantifiedUnit : Bool → ℕ → List MarkedToken → Result rust_opening.Opening Refusal → List MarkedToken → Type 0
ReadsQuantifiedUnit field room before result after = Gives (quantified_form field) room (λ x. Builds (quantified_form field) room as_unit (opening_of x) before after × NotTaken (opening_takes (opening_of x)) after) before result after
