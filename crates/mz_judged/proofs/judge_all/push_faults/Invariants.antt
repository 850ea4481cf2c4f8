use Rattle.std.proofs.Common.{◌≡◌, ◌++◌, drop, flat_map}
use Rattle.mz_judged.specs.Found.{fault_in}
use Rattle.mz_judged.proofs.judge_all.push_faults.Given as goal

abbrev pub invariant-loop-f : goal.invariant-loop-f
invariant-loop-f l = l.faults ++ flat_map fault_in (drop l.f-index l.found) ≡ l.fn.faults ++ flat_map fault_in l.found
