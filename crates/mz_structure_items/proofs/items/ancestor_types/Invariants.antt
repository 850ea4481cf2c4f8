use Rattle.std.proofs.Common.{◌≡◌, map, take}
use Rattle.mz_loci.specs.Loci.{type_over_loci}
use Rattle.mz_structure_items.proofs.items.ancestor_types.Given as goal

abbrev pub invariant-loop-ty : goal.invariant-loop-ty
invariant-loop-ty l = l.out.items ≡ map (type_over_loci l.least l.count) (take l.ty-index l.ty-items)
