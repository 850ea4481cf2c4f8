use Rattle.std.proofs.Common.{◌≡◌, ◌++◌, map, take}
use Rattle.mz_core.specs.Erasure.{erase}
use Rattle.mz_problem.proofs.asked.push_erased.Given as goal

abbrev pub invariant-loop-s : goal.invariant-loop-s
invariant-loop-s l = l.out ≡ l.initial.out ++ map erase (take l.s-index l.ss)
