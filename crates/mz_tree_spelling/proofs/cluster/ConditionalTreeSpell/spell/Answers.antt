use Rattle.std.proofs.Common.{append_assoc}
use Rattle.std.proofs.lemmas.Result.{IfOk-equal}
use Rattle.mz_tree_spelling.proofs.cluster.ConditionalTreeSpell.spell.Goals as goal

pub returns : goal.returns
returns c = IfOk-equal c.emit_special-2.result _ _ _ c.emit_special-2.ensures (rw (c.in_ok-spell-3.ensures, c.in_ok-spell-2.ensures, c.in_ok-emit_special.ensures, c.in_ok-spell.ensures, c.in_ok-emit_reserved.ensures) (simp append_assoc))
