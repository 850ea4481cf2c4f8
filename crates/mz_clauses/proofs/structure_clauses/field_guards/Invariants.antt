use Rattle.std.proofs.Common.{◌≡◌, take}
use Rattle.std.specs.Prelude.{flat_map}
use Rattle.mz_clauses.specs.StructureClauses.{field_guard}
use Rattle.mz_clauses.proofs.structure_clauses.field_guards.Given as goal

abbrev pub invariant-loop-x : goal.invariant-loop-x
invariant-loop-x l = l.out ≡ flat_map (field_guard l.values) (take l.x-index l.x-items)
