-- The forms of labels of definientia, and of what definitions say.
use Rattle.std.specs.Prelude.{false}
use Rattle.mz_base.specs.declared.token.MarkedToken.{MarkedToken}
use Rattle.mz_forms.specs.Form.{Form}
use Rattle.mz_tree_heading.specs.declared.meaning.DefinitionLabelTree.{DefinitionLabelTree}
use Rattle.mz_tree_heading.specs.declared.meaning.MeaningTree.{MeaningTree}
use Rattle.mz_tree_heading.specs.declared.meaning.MeaningTree.TheVariants as meaning_tree
use Rattle.mz_tree_heading.specs.Spell as spell
use Rattle.mz_tree_heading.specs.Levels as levels
use Rattle.mz_tree_heading.specs.EachLevel as each
use Rattle.mz_tree_heading.specs.Rules as rules
use Rattle.mz_ppattern.specs.Optional.{optional}
use Rattle.mz_pmeaning.specs.Classes.{begins_label, begins_meaning, begins_means, goes_on_meaning}

abbrev pub definition_label_form : Form MarkedToken
definition_label_form = record { Tree = DefinitionLabelTree; spell = spell.spell_definition_label; levels = levels.levels_definition_label; each = each.each_definition_label; IsTree = λ _. Unit {0}; goes = λ _ _. false }

abbrev pub optional_label : Form MarkedToken
optional_label = optional definition_label_form begins_label

-- `equals` and terms
abbrev pub IsEquals : MeaningTree → Type 0
IsEquals (meaning_tree.Means p l a) = ⊥
IsEquals (meaning_tree.Equals p l a) = rules.IsMeaning (meaning_tree.Equals p l a)

abbrev pub means_form : Form MarkedToken
means_form = record { Tree = MeaningTree; spell = spell.spell_meaning; levels = levels.levels_meaning; each = each.each_meaning; IsTree = rules.IsMeans; goes = λ _ t. goes_on_meaning t }

abbrev pub equals_form : Form MarkedToken
equals_form = record { Tree = MeaningTree; spell = spell.spell_meaning; levels = levels.levels_meaning; each = each.each_meaning; IsTree = IsEquals; goes = λ _ t. goes_on_meaning t }

abbrev pub meaning_form : Form MarkedToken
meaning_form = record { Tree = MeaningTree; spell = spell.spell_meaning; levels = levels.levels_meaning; each = each.each_meaning; IsTree = rules.IsMeaning; goes = λ _ t. goes_on_meaning t }

abbrev pub optional_means : Form MarkedToken
optional_means = optional means_form begins_means

abbrev pub optional_meaning : Form MarkedToken
optional_meaning = optional meaning_form begins_meaning
