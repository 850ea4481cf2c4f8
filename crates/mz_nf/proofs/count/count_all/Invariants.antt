use Rattle.std.proofs.Common.{◌≡◌, take}
use Rattle.mz_logic.specs.Capped.{capped}
use Rattle.mz_nf.specs.Count.{count_all}
use Rattle.mz_nf.proofs.count.count_all.Given as goal

abbrev pub invariant-loop-f : goal.invariant-loop-f
invariant-loop-f l = l.total ≡ capped (count_all (take l.f-index l.f-items))
