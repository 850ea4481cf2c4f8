use Rattle.std.proofs.Common.{◌≡◌, map, take}
use Rattle.mz_structure_items.specs.Items.{selector_notation}
use Rattle.mz_structure_items.proofs.items.selector_notations.Given as goal

abbrev pub invariant-loop-f : goal.invariant-loop-f
invariant-loop-f l = l.out.items ≡ map (selector_notation l.loci l.s) (take l.f-index l.fs)
