use Rattle.std.proofs.Common.{append_assoc}
use Rattle.std.proofs.lemmas.Result.{IfOk-equal}
use Rattle.mz_tree_spelling.proofs.notation.NotationTreeSpell.spell.Goals as goal

pub returns : goal.returns
returns c = IfOk-equal c.emit_special.result _ _ _ c.emit_special.ensures (rw (c.in_ok-emit_reserved-2.ensures, c.in_ok-spell.ensures, c.in_ok-emit_reserved.ensures) (simp append_assoc))
