use Rattle.std.proofs.lemmas.Result.{IfOk-equal}
use Rattle.mz_tree_spelling.proofs.StructureLemmas.{append-eight_parts}
use Rattle.mz_tree_spelling.proofs.structure.StructureTreeSpell.spell.Goals as goal

pub returns : goal.returns
returns c = IfOk-equal c.emit_special-3.result _ _ _ c.emit_special-3.ensures (append-eight_parts _ _ _ _ _ _ _ _ _ _ _ _ _ _ _ _ c.in_ok-emit_reserved.ensures c.in_ok-spell.ensures c.in_ok-emit_symbol.ensures c.in_ok-spell-2.ensures c.in_ok-emit_special.ensures c.in_ok-spell-3.ensures c.in_ok-emit_special-2.ensures)
