-- The forms of reasonings: which marked tokens spell which tree. Any token may go on after a whole tree here; a parser
-- states fewer.
use Rattle.std.specs.Prelude.{Bool, true}
use Rattle.mz_forms.specs.Form.{Form}
use Rattle.mz_base.specs.declared.token.MarkedToken.{MarkedToken}
use Rattle.mz_tree_proof.specs.declared.propositions.PropositionTree.{PropositionTree}
use Rattle.mz_tree_proof.specs.Reasoning.{JustData, StatementData, StepList}
use Rattle.mz_tree_proof.specs.Spell.{spell_proposition}
use Rattle.mz_tree_proof.specs.SpellReasoning.{spell_just, spell_statement, spell_step_list}
use Rattle.mz_tree_proof.specs.Levels.{levels_proposition}
use Rattle.mz_tree_proof.specs.LevelsReasoning.{levels_just, levels_statement, levels_step_list}
use Rattle.mz_tree_proof.specs.EachLevel.{each_proposition}
use Rattle.mz_tree_proof.specs.EachLevelReasoning.{each_just, each_statement, each_step_list}
use Rattle.mz_tree_proof.specs.Rules.{IsProposition}
use Rattle.mz_tree_proof.specs.RulesReasoning.{IsJust, IsStatement, AreSteps}

abbrev pub proposition : Form MarkedToken
proposition = record { Tree = PropositionTree; spell = spell_proposition; levels = levels_proposition; each = each_proposition; IsTree = IsProposition; goes = λ _ _. true }

abbrev pub justification : Form MarkedToken
justification = record { Tree = JustData; spell = spell_just; levels = levels_just; each = each_just; IsTree = IsJust; goes = λ _ _. true }

abbrev pub statement : Form MarkedToken
statement = record { Tree = StatementData; spell = spell_statement; levels = levels_statement; each = each_statement; IsTree = IsStatement; goes = λ _ _. true }

abbrev pub reasoning : Form MarkedToken
reasoning = record { Tree = StepList; spell = spell_step_list; levels = levels_step_list; each = each_step_list; IsTree = AreSteps; goes = λ _ _. true }
