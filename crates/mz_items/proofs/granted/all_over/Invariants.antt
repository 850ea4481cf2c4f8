use Rattle.std.proofs.Common.{◌≡◌, map, take}
use Rattle.mz_items.specs.Loci.{over}
use Rattle.mz_items.proofs.granted.all_over.Given as goal

abbrev pub invariant-loop-s : goal.invariant-loop-s
invariant-loop-s l = l.out.items ≡ map (over l.loci) (take l.s-index l.s-items)
