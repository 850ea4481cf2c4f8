use Rattle.std.proofs.Common.{◌≡◌, take}
use Rattle.std.specs.Prelude.{flat_map}
use Rattle.mz_clauses.specs.Guards.{guard_at_object}
use Rattle.mz_clauses.proofs.structure_clauses.ancestor_guards.Given as goal

abbrev pub invariant-loop-x : goal.invariant-loop-x
invariant-loop-x l = l.out ≡ flat_map guard_at_object (take l.x-index l.x-items)
