-- The sets of tokens that definientia begin with, and that may go on them.
use Rattle.std.specs.Prelude.{◌≡◌, Bool, true, false, ◌||◌, List, [], ◌∷◌, codes}
use Rattle.mz_base.specs.declared.place.Place.{Place}
use Rattle.mz_base.specs.declared.token.MarkedToken.{MarkedToken}
use Rattle.mz_forms.specs.Form.{Agrees}
use Rattle.mz_tree.specs.Spelled.{list_comma}
use Rattle.mz_tree.specs.Trees.{FormulaData}
use Rattle.mz_tree_heading.specs.Rules.{formula_ends_in_terms}
use Rattle.mz_pterm.specs.declared.sign.Sign.{Sign}
use Rattle.mz_pterm.specs.declared.sign.Sign.TheVariants as signs
use Rattle.mz_pterm.specs.Sign.{sign_of}
use Rattle.mz_ptype.specs.Forms.{is_comma}
use Rattle.mz_patom.specs.Classes.{goes_open}
use Rattle.mz_pformula.specs.Forms.{any_operator, formula_takes}
use Rattle.mz_pjustification.specs.declared.keyword.Keyword.{Keyword}
use Rattle.mz_pjustification.specs.declared.keyword.Keyword.TheVariants as keywords
use Rattle.mz_pjustification.specs.Keyword.{keyword_of}
use Rattle.mz_pjustification.specs.Forms.{is_colon}
use Rattle.mz_ppattern.specs.Words.{is_word}

-- What may go on a condition: a list comma only where a list of terms stands last in it.
abbrev pub goes_condition : FormulaData → Sign → Bool
goes_condition f signs.ListComma = formula_ends_in_terms f
goes_condition f s = goes_open (formula_takes f) s

-- where a list of terms stands last in the formula, no list comma comes next
abbrev pub NoComma : FormulaData → List MarkedToken → Type 0
NoComma f after = formula_ends_in_terms f ≡ true → (p : Place) → Agrees after (list_comma p ∷ []) → ⊥

-- what may go on cases: what goes on a condition, and commas
abbrev pub goes_on_cases : Sign → Bool
goes_on_cases s = goes_open any_operator s || is_comma s

-- what may go on a definiens
abbrev pub goes_on_meaning : MarkedToken → Bool
goes_on_meaning t = goes_on_cases (sign_of t) || (is_word (codes "if") t || is_word (codes "otherwise") t)

abbrev pub begins_label : MarkedToken → Bool
begins_label t = is_colon (keyword_of t)

abbrev pub is_means : Keyword → Bool
is_means keywords.Means = true
is_means _ = false

abbrev pub begins_means : MarkedToken → Bool
begins_means t = is_means (keyword_of t)

abbrev pub begins_meaning : MarkedToken → Bool
begins_meaning t = is_word (codes "equals") t || begins_means t
