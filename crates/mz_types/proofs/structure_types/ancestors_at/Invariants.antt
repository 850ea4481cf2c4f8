use Rattle.std.proofs.Common.{◌≡◌, map, take}
use Rattle.mz_types.specs.RowTypes.{radix_at}
use Rattle.mz_types.proofs.structure_types.ancestors_at.Given as goal

abbrev pub invariant-loop-ty : goal.invariant-loop-ty
invariant-loop-ty l = l.out ≡ map (radix_at l.args) (take l.ty-index l.ty-items)
