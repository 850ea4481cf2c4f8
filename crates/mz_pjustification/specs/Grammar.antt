-- The form of justifications without a proof. Any token may go on after a whole tree here.
use Rattle.std.specs.Prelude.{true}
use Rattle.mz_forms.specs.Form.{Form}
use Rattle.mz_base.specs.declared.token.MarkedToken.{MarkedToken}
use Rattle.mz_tree_proof.specs.declared.references.SimpleTree.{SimpleTree}
use Rattle.mz_tree_proof.specs.Spell.{spell_simple}
use Rattle.mz_tree_proof.specs.Levels.{levels_simple}
use Rattle.mz_tree_proof.specs.EachLevel.{each_simple}
use Rattle.mz_tree_proof.specs.Rules.{IsSimple}

abbrev pub simple : Form MarkedToken
simple = record { Tree = SimpleTree; spell = spell_simple; levels = levels_simple; each = each_simple; IsTree = IsSimple; goes = λ _ _. true }
