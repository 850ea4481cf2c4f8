use Rattle.std.proofs.Common.{◌≡◌, ◌++◌, flat_map, take}
use Rattle.mz_context.specs.Occurring.{adjective_constants}
use Rattle.mz_context.proofs.occurring.push_adjectives.Given as goal

abbrev pub invariant-loop-a : goal.invariant-loop-a
invariant-loop-a l = l.out.items ≡ l.initial.out.items ++ flat_map (adjective_constants l.count) (take l.a-index l.a-items)
