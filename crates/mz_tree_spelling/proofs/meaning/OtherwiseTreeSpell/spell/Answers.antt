use Rattle.std.proofs.Common.{append_assoc}
use Rattle.std.proofs.lemmas.Result.{IfOk-equal}
use Rattle.mz_tree_spelling.proofs.meaning.OtherwiseTreeSpell.spell.Goals as goal

pub returns : goal.returns
returns g c = IfOk-equal c.spell.result _ _ _ c.spell.ensures (rw (c.in_ok-emit_reserved.ensures) (simp append_assoc))
