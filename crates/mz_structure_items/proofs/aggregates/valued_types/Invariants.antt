use Rattle.std.proofs.Common.{◌≡◌, map, take}
use Rattle.mz_structure_items.specs.Aggregates.{valued_type}
use Rattle.mz_structure_items.proofs.aggregates.valued_types.Given as goal

abbrev pub invariant-loop-f : goal.invariant-loop-f
invariant-loop-f l = l.out.items ≡ map (valued_type l.y l.selectors.items) (take l.f-index l.fs)
