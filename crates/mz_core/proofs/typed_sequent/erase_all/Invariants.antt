use Rattle.std.proofs.Common.{◌≡◌, map, take}
use Rattle.mz_core.specs.Erasure.{erase}
use Rattle.mz_core.proofs.typed_sequent.erase_all.Given as goal

abbrev pub invariant-loop-s : goal.invariant-loop-s
invariant-loop-s l = l.out.items ≡ map erase (take l.s-index l.s-items)
