use Rattle.std.proofs.Common.{◌≡◌, ◌++◌, take}
use Rattle.std.specs.Prelude.{flat_map}
use Rattle.mz_clauses.specs.Groups.{group_clauses}
use Rattle.mz_clauses.proofs.groups.push_clauses.Given as goal

abbrev pub invariant-loop-g : goal.invariant-loop-g
invariant-loop-g l = l.out ≡ l.initial.out ++ flat_map group_clauses (take l.g-index l.g-items)
