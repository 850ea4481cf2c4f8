-- The forms of quantified formulas.
use Rattle.std.specs.Prelude.{◌≡◌, ℕ, suc, Bool, List, ◌∷◌, ◌++◌, length, codes, Result, Ok, Err, Box}
use Rattle.std.specs.declared.alloc.Global.{Global}
use Rattle.std.proofs.Common.{ap}
use Rattle.mz_base.specs.declared.place.Place.{Place}
use Rattle.mz_base.specs.declared.token.MarkedToken.{MarkedToken}
use Rattle.mz_forms.specs.declared.refusal.Refusal.{Refusal}
use Rattle.mz_forms.specs.declared.refusal.Refusal.TheVariants.{Memory}
use Rattle.mz_forms.specs.Form.{Form, Found, each_append, then, nested}
use Rattle.mz_forms.specs.Reading.{Gives, Builds}
use Rattle.mz_tree.specs.declared.nodes.QuantifiedNode.{QuantifiedNode}
use Rattle.mz_tree.specs.Spelled.{reserved}
use Rattle.mz_tree.specs.Trees.{DeclarationsData, FormulaData, QuantifiedData, ForQuantified, ForSuchQuantified, ForFurtherQuantified, ForSuchFurtherQuantified, ExistsQuantified}
use Rattle.mz_tree.specs.Spell.{spell_formula, spell_quantified}
use Rattle.mz_tree.specs.Levels.{levels_formula, levels_quantified, each_formula, each_quantified}
use Rattle.mz_tree.specs.Rules.{Operator, takes_formula, takes_quantified, IsFormula, IsQuantified}
use Rattle.mz_tree.specs.Views.{quantified_of}
use Rattle.mz_pterm.specs.declared.sign.Sign.TheVariants as signs
use Rattle.mz_pterm.specs.Sign.{sign_of}
use Rattle.mz_pterm.specs.Words.{word}
use Rattle.mz_ptype.specs.Forms.{declarations_form}
use Rattle.mz_patom.specs.Classes.{goes_open}
use Rattle.mz_pformula.specs.declared.formulas.Scope as rust_scope
use Rattle.mz_pformula.specs.declared.formulas.Scope.TheVariants as scopes
use Rattle.mz_pformula.specs.Classes.{NotTaken}
use Rattle.mz_pformula.specs.Forms.{formula_form, formula_in}

-- `holds` with a formula, or a further quantifier
pub data Scope : Type 0 where
  holds_scope : Place → FormulaData → Scope
  further_scope : QuantifiedData → Scope

abbrev pub spell_scope : Scope → List MarkedToken
spell_scope (holds_scope p f) = reserved p (codes "holds") ∷ spell_formula f
spell_scope (further_scope q) = spell_quantified q

abbrev pub levels_scope : Scope → List ℕ
levels_scope (holds_scope p f) = 0 ∷ levels_formula f
levels_scope (further_scope q) = levels_quantified q

pub each_scope : (s : Scope) → length (levels_scope s) ≡ length (spell_scope s)
each_scope (holds_scope p f) = ap suc (each_formula f)
each_scope (further_scope q) = each_quantified q

abbrev pub IsScope : Bool → Scope → Type 0
IsScope field (holds_scope p f) = IsFormula field f
IsScope field (further_scope q) = IsQuantified field q

abbrev pub scope_takes : Scope → Operator → Bool
scope_takes (holds_scope p f) o = takes_formula o f
scope_takes (further_scope q) o = takes_quantified o q

abbrev pub scope_form : Bool → Form MarkedToken
scope_form field = record { Tree = Scope; spell = spell_scope; levels = levels_scope; each = each_scope; IsTree = IsScope field; goes = λ s t. goes_open (scope_takes s) (sign_of t) }

-- `st` with a condition before the scope, or the scope alone
pub data Universal : Type 0 where
  plain_universal : Scope → Universal
  such_universal : Place → FormulaData → Scope → Universal

abbrev pub spell_universal : Universal → List MarkedToken
spell_universal (plain_universal s) = spell_scope s
spell_universal (such_universal p f s) = reserved p (codes "st") ∷ (spell_formula f ++ spell_scope s)

abbrev pub levels_universal : Universal → List ℕ
levels_universal (plain_universal s) = levels_scope s
levels_universal (such_universal p f s) = 0 ∷ (levels_formula f ++ levels_scope s)

pub each_universal : (u : Universal) → length (levels_universal u) ≡ length (spell_universal u)
each_universal (plain_universal s) = each_scope s
each_universal (such_universal p f s) = ap suc (each_append (levels_formula f) (levels_scope s) (spell_formula f) (spell_scope s) (each_formula f) (each_scope s))

abbrev pub IsUniversal : Bool → Universal → Type 0
IsUniversal field (plain_universal s) = IsScope field s
IsUniversal field (such_universal p f s) = IsFormula field f × IsScope field s

abbrev pub universal_takes : Universal → Operator → Bool
universal_takes (plain_universal s) o = scope_takes s o
universal_takes (such_universal p f s) o = scope_takes s o

abbrev pub universal_form : Bool → Form MarkedToken
universal_form field = record { Tree = Universal; spell = spell_universal; levels = levels_universal; each = each_universal; IsTree = IsUniversal field; goes = λ u t. goes_open (universal_takes u) (sign_of t) }

abbrev pub condition : Bool → Form MarkedToken
condition field = then (formula_form field) (λ _. scope_form field)

-- A quantified formula.
abbrev pub quantified_form : Bool → Form MarkedToken
quantified_form field = record { Tree = QuantifiedData; spell = spell_quantified; levels = levels_quantified; each = each_quantified; IsTree = IsQuantified field; goes = λ q t. goes_open (λ o. takes_quantified o q) (sign_of t) }

abbrev pub behind_for : Bool → Form MarkedToken
behind_for field = then (declarations_form field) (λ _. universal_form field)

abbrev pub for_form : Bool → Form MarkedToken
for_form field = then (nested (word signs.For)) (λ _. nested (behind_for field))

abbrev pub universal_scope : Place → DeclarationsData → Scope → QuantifiedData
universal_scope p d (holds_scope q f) = ForQuantified p d.first d.more q f
universal_scope p d (further_scope q) = ForFurtherQuantified p d.first d.more q

abbrev pub such_scope : Place → DeclarationsData → Place → FormulaData → Scope → QuantifiedData
such_scope p d r g (holds_scope q f) = ForSuchQuantified p d.first d.more r g q f
such_scope p d r g (further_scope q) = ForSuchFurtherQuantified p d.first d.more r g q

abbrev pub universal_from : Place → DeclarationsData → Universal → QuantifiedData
universal_from p d (plain_universal s) = universal_scope p d s
universal_from p d (such_universal r g s) = such_scope p d r g s

abbrev pub such_formula : Bool → Form MarkedToken
such_formula field = then (word signs.St) (λ _. formula_form field)

abbrev pub behind_ex : Bool → Form MarkedToken
behind_ex field = then (declarations_form field) (λ _. such_formula field)

abbrev pub ex_form : Bool → Form MarkedToken
ex_form field = then (nested (word signs.Ex)) (λ _. nested (behind_ex field))

abbrev pub exists_from : Place → DeclarationsData → Place → FormulaData → QuantifiedData
exists_from p d q f = ExistsQuantified p d.first d.more q f

-- What is read.
abbrev pub quantified_in : Box QuantifiedNode Global → QuantifiedData
quantified_in b = quantified_of b.value

abbrev pub scope_of : rust_scope.Scope → Scope
scope_of (scopes.Holds p b) = holds_scope p (formula_in b)
scope_of (scopes.Further b) = further_scope (quantified_in b)

abbrev pub BoxesQuantified : QuantifiedNode → Result (Box QuantifiedNode Global) Refusal → Type 0
BoxesQuantified x (Ok b) = b.value ≡ x
BoxesQuantified x (Err e) = e ≡ Memory

abbrev pub quantified_takes : QuantifiedData → Operator → Bool
quantified_takes q o = takes_quantified o q

abbrev pub ReadsQuantified : Bool → ℕ → List MarkedToken → Result (Box QuantifiedNode Global) Refusal → List MarkedToken → Type 0
ReadsQuantified field room before result after = Gives (quantified_form field) room (λ x. Found (quantified_form field) room before (quantified_in x) after × NotTaken (quantified_takes (quantified_in x)) after) before result after

abbrev pub ReadsScope : Bool → ℕ → List MarkedToken → Result rust_scope.Scope Refusal → List MarkedToken → Type 0
ReadsScope field room before result after = Gives (scope_form field) room (λ x. Found (scope_form field) room before (scope_of x) after × NotTaken (scope_takes (scope_of x)) after) before result after

abbrev pub ReadsUniversal : Bool → ℕ → Place → DeclarationsData → List MarkedToken → Result (Box QuantifiedNode Global) Refusal → List MarkedToken → Type 0
ReadsUniversal field room p d before result after = Gives (universal_form field) room (λ x. Builds (universal_form field) room (universal_from p d) (quantified_in x) before after × NotTaken (quantified_takes (quantified_in x)) after) before result after

abbrev pub make_exists : Place → DeclarationsData → (Place × FormulaData) → QuantifiedData
make_exists p d k = exists_from p d k.0 k.1

abbrev pub ReadsExists : Bool → ℕ → Place → DeclarationsData → List MarkedToken → Result (Box QuantifiedNode Global) Refusal → List MarkedToken → Type 0
ReadsExists field room p d before result after = Gives (such_formula field) room (λ x. Builds (such_formula field) room (make_exists p d) (quantified_in x) before after × NotTaken (quantified_takes (quantified_in x)) after) before result after
