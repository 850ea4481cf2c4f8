use Rattle.std.proofs.Common.{take}
use Rattle.mz_nf.specs.Constants.{has}
use Rattle.mz_nf.specs.Splits.{SplitsAll}
use Rattle.mz_nf.proofs.split.split_all.Given as goal

abbrev pub invariant-loop-f : goal.invariant-loop-f
invariant-loop-f l = SplitsAll (has l.used) (take l.f-index l.f-items) 1 l.disjuncts l.next
