-- The forms of headings of modes, and of the types in headings.
use Rattle.std.specs.Prelude.{◌≡◌, ℕ, Bool, true, false, ◌||◌, List, length, Option, Some, None, is_some, Result}
use Rattle.mz_base.specs.declared.place.Place.{Place}
use Rattle.mz_base.specs.declared.token.MarkedToken.{MarkedToken}
use Rattle.mz_forms.specs.declared.refusal.Refusal.{Refusal}
use Rattle.mz_forms.specs.Form.{Form, then}
use Rattle.mz_forms.specs.Reading.{Gives, Builds}
use Rattle.mz_tree.specs.Trees.{TypeData}
use Rattle.mz_tree.specs.Spelled as spelled
use Rattle.mz_tree.specs.Rules.{IfAny}
use Rattle.mz_tree_heading.specs.declared.patterns.ModePatternTree.{ModePatternTree}
use Rattle.mz_tree_heading.specs.declared.meaning.MeaningTree.{MeaningTree}
use Rattle.mz_tree_heading.specs.declared.heading.ResultTree.{ResultTree}
use Rattle.mz_tree_heading.specs.declared.heading.ModeHeadingTree.{ModeHeadingTree}
use Rattle.mz_tree_heading.specs.declared.heading.HeadingTree.{HeadingTree}
use Rattle.mz_tree_heading.specs.declared.heading.HeadingTree.TheVariants as heading_tree
use Rattle.mz_tree_heading.specs.Spell as spell
use Rattle.mz_tree_heading.specs.Levels as levels
use Rattle.mz_tree_heading.specs.EachLevel as each
use Rattle.mz_tree_heading.specs.Rules as rules
use Rattle.mz_pterm.specs.declared.sign.Sign.TheVariants as signs
use Rattle.mz_pterm.specs.Sign.{sign_of}
use Rattle.mz_pterm.specs.Words.{word}
use Rattle.mz_ptype.specs.Forms.{whole_type, goes_type}
use Rattle.mz_pjustification.specs.declared.keyword.Keyword.TheVariants as keywords
use Rattle.mz_pjustification.specs.Words.{keyword}
use Rattle.mz_ppattern.specs.Words.{is_arrow}
use Rattle.mz_ppattern.specs.Optional.{each_optional, optional}
use Rattle.mz_pmeaning.specs.MeaningForms.{means_form, optional_means}

-- The type of what is defined.
abbrev pub result_form : Form MarkedToken
result_form = record { Tree = ResultTree; spell = spell.spell_result; levels = levels.levels_result; each = each.each_result; IsTree = rules.IsResult; goes = λ x t. goes_type x.ty (sign_of t) }

abbrev pub optional_result : Form MarkedToken
optional_result = optional result_form is_arrow

-- What stands behind the pattern of a mode: of an abbreviation, or of a definition.
abbrev pub abbreviation_rest : Form MarkedToken
abbreviation_rest = then (word signs.Is) (λ _. then (whole_type false) (λ _. keyword keywords.Semicolon))

abbrev pub definition_rest : Form MarkedToken
definition_rest = then optional_result (λ _. then means_form (λ _. keyword keywords.Semicolon))

pub data ModeRest : Type 0 where
  abbreviates : Place → TypeData → Place → ModeRest
  defines : Option ResultTree → MeaningTree → Place → ModeRest

abbrev pub spell_mode_rest : ModeRest → List MarkedToken
spell_mode_rest (abbreviates p t q) = abbreviation_rest.spell (p, (t, q))
spell_mode_rest (defines o m q) = definition_rest.spell (o, (m, q))

abbrev pub levels_mode_rest : ModeRest → List ℕ
levels_mode_rest (abbreviates p t q) = abbreviation_rest.levels (p, (t, q))
levels_mode_rest (defines o m q) = definition_rest.levels (o, (m, q))

pub each_mode_rest : (x : ModeRest) → length (levels_mode_rest x) ≡ length (spell_mode_rest x)
each_mode_rest (abbreviates p t q) = abbreviation_rest.each (p, (t, q))
each_mode_rest (defines o m q) = definition_rest.each (o, (m, q))

abbrev pub IsModeRest : ModeRest → Type 0
IsModeRest (abbreviates p t q) = abbreviation_rest.IsTree (p, (t, q))
IsModeRest (defines o m q) = definition_rest.IsTree (o, (m, q))

abbrev pub mode_rest_form : Form MarkedToken
mode_rest_form = record { Tree = ModeRest; spell = spell_mode_rest; levels = levels_mode_rest; each = each_mode_rest; IsTree = IsModeRest; goes = λ _ _. false }

abbrev pub mode_from : Place → ModePatternTree → ModeRest → HeadingTree
mode_from p m (abbreviates r t q) = heading_tree.Abbreviation (record { mode = p; pattern = m; is = r; ty = t; semicolon = q })
mode_from p m (defines o k q) = heading_tree.Mode (record { mode = p; pattern = m; result = o; meaning = k; semicolon = q })

abbrev pub ReadsModeRest : ℕ → Place → ModePatternTree → List MarkedToken → Result HeadingTree Refusal → List MarkedToken → Type 0
ReadsModeRest room p m before result after = Gives mode_rest_form room (λ x. Builds mode_rest_form room (mode_from p m) x before after) before result after

-- Headings that begin with `mode`.
abbrev pub IsOfMode : HeadingTree → Type 0
IsOfMode (heading_tree.Mode a) = rules.IsModeHeading rules.IsMeans a
IsOfMode (heading_tree.Abbreviation a) = rules.IsAbbreviation a
IsOfMode _ = ⊥

abbrev pub mode_form : Form MarkedToken
mode_form = record { Tree = HeadingTree; spell = spell.spell_heading; levels = levels.levels_heading; each = each.each_heading; IsTree = IsOfMode; goes = λ _ _. false }

-- A form where what might be left out is written.
abbrev pub IsStated : {X : Type 0} → (X → Type 0) → Option X → Type 0
IsStated Is None = ⊥
IsStated Is (Some x) = Is x

abbrev pub goes_stated : (X : Form MarkedToken) → Option X.Tree → MarkedToken → Bool
goes_stated X None t = false
goes_stated X (Some x) t = X.goes x t

abbrev pub stated : Form MarkedToken → Form MarkedToken
stated X = record { Tree = Option X.Tree; spell = spelled.maybe X.spell; levels = spelled.maybe X.levels; each = each_optional X; IsTree = IsStated X.IsTree; goes = goes_stated X }

-- what a redefinition of a mode means, which may be left out behind a type
abbrev pub IsModeMeaning : Bool → Option MeaningTree → Type 0
IsModeMeaning true = IfAny rules.IsMeans
IsModeMeaning false = IsStated rules.IsMeans

abbrev pub goes_mode_meaning : Bool → Option MeaningTree → MarkedToken → Bool
goes_mode_meaning true = optional_means.goes
goes_mode_meaning false = goes_stated means_form

abbrev pub mode_meaning : Bool → Form MarkedToken
mode_meaning typed = record { Tree = Option MeaningTree; spell = spelled.maybe spell.spell_meaning; levels = spelled.maybe levels.levels_meaning; each = each_optional means_form; IsTree = IsModeMeaning typed; goes = goes_mode_meaning typed }

abbrev pub IsRedefinedMode : ModeHeadingTree (Option MeaningTree) → Type 0
IsRedefinedMode a = rules.IsModeHeading (IfAny rules.IsMeans) a × ((is_some a.result || is_some a.meaning) ≡ true)

abbrev pub redefined_mode_form : Form MarkedToken
redefined_mode_form = record { Tree = ModeHeadingTree (Option MeaningTree); spell = spell.spell_mode_heading (spelled.maybe spell.spell_meaning); levels = levels.levels_mode_heading (spelled.maybe levels.levels_meaning); each = each.each_mode_heading (spelled.maybe levels.levels_meaning) (spelled.maybe spell.spell_meaning) (each_optional means_form); IsTree = IsRedefinedMode; goes = λ _ _. false }
