use Rattle.std.proofs.Common.{◌≡◌, map, take}
use Rattle.mz_fields.specs.Values.{with_values}
use Rattle.mz_fields.proofs.values.+values.Given as goal

abbrev pub invariant-terms_with_values-loop-t : goal.invariant-terms_with_values-loop-t
invariant-terms_with_values-loop-t l = l.out.items ≡ map (with_values l.y l.first l.selectors) (take l.t-index l.t-items)
