use Rattle.std.proofs.Common.{take}
use Rattle.mz_ground.specs.Growth.{Grows}
use Rattle.mz_ground.specs.Instances.{IsAddedBy, IsNew}
use Rattle.mz_ground.proofs.ground_part.Ground.add_clauses.Given as goal

abbrev pub invariant-loop-c : goal.invariant-loop-c
invariant-loop-c l = Grows l.fn.self (IsAddedBy (take l.c-index l.cs) (IsNew l.fn.self l.places.start l.places.end)) l.self
