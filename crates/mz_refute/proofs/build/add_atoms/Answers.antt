use Rattle.std.proofs.Common.{arith}
use Rattle.mz_refute.proofs.GrowLemmas.{atoms_turn}
use Rattle.mz_refute.proofs.ListLaws.{get_any}
use Rattle.mz_refute.proofs.build.add_atoms.Goals as goal

pub loop-i-preserved : goal.loop-i-preserved
loop-i-preserved c =
    atoms_turn c.args.table.now c.loop-i.table c.add_atom.new.table c.args.classes.now c.args.positive.now c.args.negative.now c.args.ground.now.atoms c.loop-i.i _ _ c.get.result.now
    c.loop-i.invariant c.in_ok-add_atom.ensures (get_any c.args.positive.now c.loop-i.i _ (omega arith)) (get_any c.args.negative.now c.loop-i.i _ (omega (arith, c.requires.first, c.requires.second))) c.get.ensures
