use Rattle.std.proofs.Common.{◌≡◌, map, take}
use Rattle.mz_core.specs.Abstraction.{adjective_over}
use Rattle.mz_core.proofs.abstraction.adjectives_over.Given as goal

abbrev pub invariant-loop-a : goal.invariant-loop-a
invariant-loop-a l = l.out.items ≡ map (adjective_over l.c l.depth) (take l.a-index l.a-items)
