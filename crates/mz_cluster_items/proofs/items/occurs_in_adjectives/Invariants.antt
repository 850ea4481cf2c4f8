use Rattle.std.proofs.Common.{◌≡◌, false, take}
use Rattle.std.specs.List.{list_any}
use Rattle.mz_context.specs.Gather.{occurs_in_adjective}
use Rattle.mz_cluster_items.proofs.items.occurs_in_adjectives.Given as goal

abbrev pub invariant-loop-a : goal.invariant-loop-a
invariant-loop-a l = list_any (occurs_in_adjective l.n) (take l.a-index l.a-items) ≡ false
