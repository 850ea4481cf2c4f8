-- The forms of chains of formulas, and what a reading of one promises.
use Rattle.std.specs.Prelude.{◌≡◌, ℕ, suc, Bool, true, false, List, [], ◌∷◌, length, refl, codes, Result, Ok, Err, Box}
use Rattle.std.specs.declared.alloc.Global.{Global}
use Rattle.std.proofs.Common.{ap}
use Rattle.mz_base.specs.declared.place.Place.{Place}
use Rattle.mz_base.specs.declared.token.MarkedToken.{MarkedToken}
use Rattle.mz_forms.specs.declared.refusal.Refusal.{Refusal}
use Rattle.mz_forms.specs.declared.refusal.Refusal.TheVariants.{Memory, TooDeep, Refused}
use Rattle.mz_forms.specs.Form.{Form, Found, then}
use Rattle.mz_forms.specs.Reading.{Gives, Builds}
use Rattle.mz_forms.specs.Chain.{Links}
use Rattle.mz_tree.specs.declared.chain.Chain.{Chain}
use Rattle.mz_tree.specs.declared.nodes.ConjunctionNode.{ConjunctionNode}
use Rattle.mz_tree.specs.declared.nodes.FormulaNode.{FormulaNode}
use Rattle.mz_tree.specs.declared.nodes.UnitNode.{UnitNode}
use Rattle.mz_tree.specs.Spelled.{reserved}
use Rattle.mz_tree.specs.Trees.{UnitData, ConjunctionData, DisjunctionData, FormulaData, NextUnitList, NextConjunctionList, AndNextUnit, OrNextConjunction, ChainConjunction, ChainDisjunction, PlainFormula, ImpliesFormula, IffFormula, no_next_units, more_next_units, no_next_conjunctions, more_next_conjunctions}
use Rattle.mz_tree.specs.Spell.{spell_conjunction, spell_disjunction, spell_formula}
use Rattle.mz_tree.specs.Levels.{levels_conjunction, levels_disjunction, levels_formula, each_conjunction, each_disjunction, each_formula}
use Rattle.mz_tree.specs.Rules.{Operator, conjoins, disjoins, concludes, takes_unit, takes_conjunction, takes_disjunction, takes_formula, IsConjunction, IsDisjunction, IsFormula}
use Rattle.mz_tree.specs.Views.{conjunction_of, disjunction_of, formula_of}
use Rattle.mz_pterm.specs.declared.sign.Sign.{Sign}
use Rattle.mz_pterm.specs.declared.sign.Sign.TheVariants as signs
use Rattle.mz_pterm.specs.Sign.{sign_of}
use Rattle.mz_pterm.specs.Words.{fixed}
use Rattle.mz_patom.specs.Classes.{goes_open}
use Rattle.mz_patom.specs.Forms.{unit_form, unit_in}
use Rattle.mz_pformula.specs.Classes.{is_and, is_or, concludes_sign, NotTaken}
use Rattle.mz_pformula.specs.Row.{row}

-- the operators that a formula, or a part of one, would take
abbrev pub unit_takes : UnitData → Operator → Bool
unit_takes u o = takes_unit o u

abbrev pub conjunction_takes : ConjunctionData → Operator → Bool
conjunction_takes c conjoins = true
conjunction_takes c disjoins = takes_conjunction disjoins c
conjunction_takes c concludes = takes_conjunction concludes c

abbrev pub disjunction_takes : DisjunctionData → Operator → Bool
disjunction_takes d conjoins = true
disjunction_takes d disjoins = true
disjunction_takes d concludes = takes_disjunction concludes d

abbrev pub formula_takes : FormulaData → Operator → Bool
formula_takes f o = takes_formula o f

abbrev pub any_operator : Operator → Bool
any_operator o = true

-- units with `&` between them
abbrev pub and_links : Bool → Links MarkedToken
and_links field = record { Member = unit_form field; Sign = Place; sign = fixed signs.And; State = Bool; May = λ b _. b ≡ false; next = λ u. takes_unit conjoins u; deepens = true; goes = λ t. is_and (sign_of t) }

abbrev pub units_of : List (Place × UnitData) → NextUnitList
units_of [] = no_next_units
units_of (p ∷ ps) = more_next_units (AndNextUnit p.0 p.1) (units_of ps)

abbrev pub conjunction_with : UnitData → List (Place × UnitData) → ConjunctionData
conjunction_with u us = ChainConjunction u (units_of us)

abbrev pub conjunction_form : Bool → Form MarkedToken
conjunction_form field = record { Tree = ConjunctionData; spell = spell_conjunction; levels = levels_conjunction; each = each_conjunction; IsTree = IsConjunction field; goes = λ c t. goes_open (conjunction_takes c) (sign_of t) }

abbrev pub behind_unit : Bool → UnitData → Form MarkedToken
behind_unit field u = row (and_links field) (takes_unit conjoins u)

abbrev pub units_form : Bool → Form MarkedToken
units_form field = then (unit_form field) (behind_unit field)

-- conjunctions with `or` between them
abbrev pub or_links : Bool → Links MarkedToken
or_links field = record { Member = conjunction_form field; Sign = Place; sign = fixed signs.Or; State = Bool; May = λ b _. b ≡ false; next = λ c. takes_conjunction disjoins c; deepens = true; goes = λ t. is_or (sign_of t) }

abbrev pub conjunctions_of : List (Place × ConjunctionData) → NextConjunctionList
conjunctions_of [] = no_next_conjunctions
conjunctions_of (p ∷ ps) = more_next_conjunctions (OrNextConjunction p.0 p.1) (conjunctions_of ps)

abbrev pub disjunction_with : ConjunctionData → List (Place × ConjunctionData) → DisjunctionData
disjunction_with c cs = ChainDisjunction c (conjunctions_of cs)

abbrev pub disjunction_form : Bool → Form MarkedToken
disjunction_form field = record { Tree = DisjunctionData; spell = spell_disjunction; levels = levels_disjunction; each = each_disjunction; IsTree = IsDisjunction field; goes = λ d t. goes_open (disjunction_takes d) (sign_of t) }

abbrev pub behind_conjunction : Bool → ConjunctionData → Form MarkedToken
behind_conjunction field c = row (or_links field) (takes_conjunction disjoins c)

abbrev pub conjunctions_form : Bool → Form MarkedToken
conjunctions_form field = then (conjunction_form field) (behind_conjunction field)

-- what may stand behind a disjunction
pub data Conclusion : Type 0 where
  no_conclusion : Conclusion
  implies_conclusion : Place → DisjunctionData → Conclusion
  iff_conclusion : Place → DisjunctionData → Conclusion

abbrev pub spell_conclusion : Conclusion → List MarkedToken
spell_conclusion no_conclusion = []
spell_conclusion (implies_conclusion p e) = reserved p (codes "implies") ∷ spell_disjunction e
spell_conclusion (iff_conclusion p e) = reserved p (codes "iff") ∷ spell_disjunction e

abbrev pub levels_conclusion : Conclusion → List ℕ
levels_conclusion no_conclusion = []
levels_conclusion (implies_conclusion p e) = 0 ∷ levels_disjunction e
levels_conclusion (iff_conclusion p e) = 0 ∷ levels_disjunction e

pub each_conclusion : (k : Conclusion) → length (levels_conclusion k) ≡ length (spell_conclusion k)
each_conclusion no_conclusion = refl
each_conclusion (implies_conclusion p e) = ap suc (each_disjunction e)
each_conclusion (iff_conclusion p e) = ap suc (each_disjunction e)

abbrev pub IsConclusion : Bool → DisjunctionData → Conclusion → Type 0
IsConclusion field d no_conclusion = Unit {0}
IsConclusion field d (implies_conclusion p e) = (takes_disjunction concludes d ≡ false) × IsDisjunction field e
IsConclusion field d (iff_conclusion p e) = (takes_disjunction concludes d ≡ false) × IsDisjunction field e

-- what goes on it: nothing stands there yet, or the second disjunction goes on
abbrev pub goes_conclusion : Conclusion → Sign → Bool
goes_conclusion no_conclusion s = concludes_sign s
goes_conclusion (implies_conclusion p e) s = goes_open (disjunction_takes e) s
goes_conclusion (iff_conclusion p e) s = goes_open (disjunction_takes e) s

abbrev pub conclusion : Bool → DisjunctionData → Form MarkedToken
conclusion field d = record { Tree = Conclusion; spell = spell_conclusion; levels = levels_conclusion; each = each_conclusion; IsTree = IsConclusion field d; goes = λ k t. goes_conclusion k (sign_of t) }

abbrev pub formula_with : DisjunctionData → Conclusion → FormulaData
formula_with d no_conclusion = PlainFormula d
formula_with d (implies_conclusion p e) = ImpliesFormula d p e
formula_with d (iff_conclusion p e) = IffFormula d p e

abbrev pub formula_form : Bool → Form MarkedToken
formula_form field = record { Tree = FormulaData; spell = spell_formula; levels = levels_formula; each = each_formula; IsTree = IsFormula field; goes = λ f t. goes_open (formula_takes f) (sign_of t) }

abbrev pub concluded : Bool → Form MarkedToken
concluded field = then (disjunction_form field) (conclusion field)

-- What is read.
abbrev pub formula_in : Box FormulaNode Global → FormulaData
formula_in b = formula_of b.value

abbrev pub BoxesFormula : FormulaNode → Result (Box FormulaNode Global) Refusal → Type 0
BoxesFormula x (Ok b) = b.value ≡ x
BoxesFormula x (Err e) = e ≡ Memory

-- why no unit stands here, where none may nest any deeper
abbrev pub no_room_of : Bool → Refusal
no_room_of true = TooDeep
no_room_of false = Refused

abbrev pub ReadsUnit : Bool → ℕ → List MarkedToken → Result (Box UnitNode Global) Refusal → List MarkedToken → Type 0
ReadsUnit field room before result after = Gives (unit_form field) room (λ x. Found (unit_form field) room before (unit_in x) after × NotTaken (unit_takes (unit_in x)) after) before result after

abbrev pub ReadsConjunction : Bool → ℕ → List MarkedToken → Result ConjunctionNode Refusal → List MarkedToken → Type 0
ReadsConjunction field room before result after = Gives (conjunction_form field) room (λ x. Found (conjunction_form field) room before (conjunction_of x) after × NotTaken (conjunction_takes (conjunction_of x)) after) before result after

abbrev pub ReadsRestOfConjunction : Bool → ℕ → UnitData → List MarkedToken → Result ConjunctionNode Refusal → List MarkedToken → Type 0
ReadsRestOfConjunction field room u before result after =
    Gives (behind_unit field u) room (λ x. Builds (behind_unit field u) room (conjunction_with u) (conjunction_of x) before after × NotTaken (conjunction_takes (conjunction_of x)) after) before result after

abbrev pub ReadsDisjunction : Bool → ℕ → List MarkedToken → Result (Chain Place ConjunctionNode) Refusal → List MarkedToken → Type 0
ReadsDisjunction field room before result after = Gives (disjunction_form field) room (λ x. Found (disjunction_form field) room before (disjunction_of x) after × NotTaken (disjunction_takes (disjunction_of x)) after) before result after

abbrev pub ReadsRestOfDisjunction : Bool → ℕ → ConjunctionData → List MarkedToken → Result (Chain Place ConjunctionNode) Refusal → List MarkedToken → Type 0
ReadsRestOfDisjunction field room c before result after =
    Gives (behind_conjunction field c) room (λ x. Builds (behind_conjunction field c) room (disjunction_with c) (disjunction_of x) before after × NotTaken (disjunction_takes (disjunction_of x)) after) before result after

abbrev pub ReadsFormula : Bool → ℕ → List MarkedToken → Result (Box FormulaNode Global) Refusal → List MarkedToken → Type 0
ReadsFormula field room before result after = Gives (formula_form field) room (λ x. Found (formula_form field) room before (formula_in x) after × NotTaken (formula_takes (formula_in x)) after) before result after

abbrev pub ReadsRestOfFormula : Bool → ℕ → DisjunctionData → List MarkedToken → Result (Box FormulaNode Global) Refusal → List MarkedToken → Type 0
ReadsRestOfFormula field room d before result after =
    Gives (conclusion field d) room (λ x. Builds (conclusion field d) room (formula_with d) (formula_in x) before after × NotTaken (formula_takes (formula_in x)) after) before result after
