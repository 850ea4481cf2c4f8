-- The forms of definientia with cases, and what a reading of one promises.
use Rattle.std.specs.Prelude.{ℕ, false, List, [], ◌∷◌, Result, codes}
use Rattle.mz_base.specs.declared.place.Place.{Place}
use Rattle.mz_base.specs.declared.token.MarkedToken.{MarkedToken}
use Rattle.mz_forms.specs.declared.refusal.Refusal.{Refusal}
use Rattle.mz_forms.specs.Form.{Form, Found, then}
use Rattle.mz_forms.specs.Reading.{Gives, Builds}
use Rattle.mz_forms.specs.Chain.{Links, chain}
use Rattle.mz_tree.specs.declared.word.Comma.{Comma}
use Rattle.mz_tree.specs.declared.chain.Next.{Next}
use Rattle.mz_tree.specs.declared.lists.Separated.{Separated}
use Rattle.mz_tree.specs.Trees.{FormulaData}
use Rattle.mz_tree.specs.Spell.{spell_formula}
use Rattle.mz_tree.specs.Levels.{levels_formula, each_formula}
use Rattle.mz_tree.specs.Rules.{IsFormula}
use Rattle.mz_tree_heading.specs.declared.meaning.CaseTree.{CaseTree}
use Rattle.mz_tree_heading.specs.declared.meaning.OtherwiseTree.{OtherwiseTree}
use Rattle.mz_tree_heading.specs.declared.meaning.CasesTree.{CasesTree}
use Rattle.mz_tree_heading.specs.Spell as spell
use Rattle.mz_tree_heading.specs.Levels as levels
use Rattle.mz_tree_heading.specs.EachLevel as each
use Rattle.mz_tree_heading.specs.Rules as rules
use Rattle.mz_pterm.specs.Sign.{sign_of}
use Rattle.mz_pterm.specs.Forms.{term_form}
use Rattle.mz_pformula.specs.Forms.{formula_form}
use Rattle.mz_pstep.specs.Forms.{links}
use Rattle.mz_ppattern.specs.Words.{is_word}
use Rattle.mz_ppattern.specs.Optional.{optional}
use Rattle.mz_pmeaning.specs.Classes.{goes_condition, goes_on_cases, goes_on_meaning, NoComma}

-- What is defined to be so, or to be equal.
abbrev pub formula_body : Form MarkedToken
formula_body = formula_form false

abbrev pub term_body : Form MarkedToken
term_body = term_form false

abbrev pub condition_form : Form MarkedToken
condition_form = record { Tree = FormulaData; spell = spell_formula; levels = levels_formula; each = each_formula; IsTree = IsFormula false; goes = λ f t. goes_condition f (sign_of t) }

-- Cases, whose bodies are of a form.
abbrev pub case_form : Form MarkedToken → Form MarkedToken
case_form B = record { Tree = CaseTree B.Tree; spell = spell.spell_case B.spell; levels = levels.levels_case B.levels; each = each.each_case B.levels B.spell B.each; IsTree = rules.IsCase B.IsTree; goes = λ x t. goes_condition x.condition (sign_of t) }

abbrev pub case_links : Form MarkedToken → Links MarkedToken
case_links B = links (case_form B) rules.case_ends_in_terms goes_on_cases

-- further cases, behind one with this condition
abbrev pub further_cases : Form MarkedToken → FormulaData → Form MarkedToken
further_cases B f = chain (case_links B) (rules.formula_ends_in_terms f)

-- behind a first body and its `if`
abbrev pub listed_cases : Form MarkedToken → Form MarkedToken
listed_cases B = then condition_form (further_cases B)

abbrev pub otherwise_form : Form MarkedToken → Form MarkedToken
otherwise_form B = record { Tree = OtherwiseTree B.Tree; spell = spell.spell_otherwise B.spell; levels = levels.levels_otherwise B.levels; each = each.each_otherwise B.levels B.spell B.each; IsTree = rules.IsOtherwise B.IsTree; goes = λ x t. B.goes x.body t }

abbrev pub optional_otherwise : Form MarkedToken → Form MarkedToken
optional_otherwise B = optional (otherwise_form B) (is_word (codes "otherwise"))

abbrev pub cases_form : Form MarkedToken → Form MarkedToken
cases_form B = record { Tree = CasesTree B.Tree; spell = spell.spell_cases B.spell; levels = levels.levels_cases B.levels; each = each.each_cases B.levels B.spell B.each; IsTree = rules.AreCases B.IsTree; goes = λ _ t. goes_on_meaning t }

-- What is read.
abbrev pub next_cases : {X : Type 0} → List (Comma × CaseTree X) → List (Next Comma (CaseTree X))
next_cases [] = []
next_cases (p ∷ ps) = record { sign = p.0; tree = p.1 } ∷ next_cases ps

abbrev pub cases_from : {X : Type 0} → X → Place → (FormulaData × List (Comma × CaseTree X)) → Separated (CaseTree X)
cases_from x p k = record { first = record { body = x; if_ = p; condition = k.0 }; more = next_cases k.1 }

abbrev pub ReadsCondition : ℕ → List MarkedToken → Result FormulaData Refusal → List MarkedToken → Type 0
ReadsCondition room before result after = Gives condition_form room (λ x. Found condition_form room before x after × NoComma x after) before result after

abbrev pub ReadsCase : (B : Form MarkedToken) → ℕ → List MarkedToken → Result (CaseTree B.Tree) Refusal → List MarkedToken → Type 0
ReadsCase B room before result after = Gives (case_form B) room (λ x. Found (case_form B) room before x after × NoComma x.condition after) before result after

abbrev pub ReadsCases : (B : Form MarkedToken) → ℕ → B.Tree → Place → List MarkedToken → Result (Separated (CaseTree B.Tree)) Refusal → List MarkedToken → Type 0
ReadsCases B room body place before result after = Gives (listed_cases B) room (λ x. Builds (listed_cases B) room (cases_from body place) x before after) before result after
