use Rattle.std.proofs.Common.{◌≡◌, ◌++◌, take}
use Rattle.std.specs.Prelude.{flat_map}
use Rattle.mz_core.specs.Parts.{parts}
use Rattle.mz_problem.proofs.asked.push_parts.Given as goal

abbrev pub invariant-loop-s : goal.invariant-loop-s
invariant-loop-s l = l.out ≡ l.initial.out ++ flat_map parts (take l.s-index l.ss)
