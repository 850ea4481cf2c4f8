use Rattle.std.proofs.Common.{◌≡◌, true, take}
use Rattle.std.specs.List.{list_all}
use Rattle.mz_core.specs.Closed.{adjective_under}
use Rattle.mz_structure_items.proofs.closed.adjectives_under.Given as goal

abbrev pub invariant-loop-a : goal.invariant-loop-a
invariant-loop-a l = list_all (adjective_under l.n) (take l.a-index l.a-items) ≡ true
