use Rattle.std.proofs.Common.{List, take}
use Rattle.mz_ground.specs.declared.clause.Clause.{Clause}
use Rattle.mz_refute.specs.FactIndex.{IsFactIndex}
use Rattle.mz_by.specs.Examination.{IsSoFar}
use Rattle.mz_by.proofs.examine.examine_by.Given as goal

abbrev pub invariant-loop-u : goal.invariant-loop-u
invariant-loop-u l = (cs : List Clause) → IsFactIndex l.d cs l.index → IsSoFar l.d cs (take l.u-index l.u-items) l.first
