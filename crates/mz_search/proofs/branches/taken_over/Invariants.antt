use Rattle.std.proofs.Common.{map, take}
use Rattle.mz_search.specs.States.{AreTaken, state_of}
use Rattle.mz_search.proofs.branches.taken_over.Given as goal

abbrev pub invariant-loop-l : goal.invariant-loop-l
invariant-loop-l l = AreTaken l.scope l.e (take l.l-index l.l-items) (map state_of l.out.items)
