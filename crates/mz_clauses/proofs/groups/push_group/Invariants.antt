use Rattle.std.proofs.Common.{◌≡◌, ◌++◌, take}
use Rattle.std.specs.Prelude.{flat_map}
use Rattle.mz_clauses.specs.Groups.{clause_if_triggered}
use Rattle.mz_clauses.proofs.groups.push_group.Given as goal

abbrev pub invariant-loop-c : goal.invariant-loop-c
invariant-loop-c l = l.out ≡ l.initial.out ++ flat_map (clause_if_triggered l.g.variables l.g.trigger l.g.premises) (take l.c-index l.c-items)
