use Rattle.std.proofs.Common.{◌≡◌, map, take}
use Rattle.mz_fields.specs.Values.{adjective_with_values}
use Rattle.mz_fields.proofs.values.adjectives_with_values.Given as goal

abbrev pub invariant-loop-a : goal.invariant-loop-a
invariant-loop-a l = l.out.items ≡ map (adjective_with_values l.y l.first l.selectors) (take l.a-index l.a-items)
