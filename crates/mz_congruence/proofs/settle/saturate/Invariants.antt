use Rattle.std.proofs.Common.{◌≤◌, ◌+◌, ◌*◌, length}
use Rattle.std.specs.Prelude.{if◌then◌else◌}
use Rattle.mz_congruence.specs.Classes.{total}
use Rattle.mz_congruence.specs.Closing.{State, MetBelow}
use Rattle.mz_congruence.proofs.settle.saturate.Given as goal

abbrev pub invariant-passes : goal.invariant-passes
invariant-passes l = record {
  state : State l.graph l.c;
  less : total l.c ≤ total l.fn.c;
  met : MetBelow l.more l.graph l.c (length l.graph.rules);
}

abbrev pub decreases-passes : goal.decreases-passes
decreases-passes l = 2 * total l.c + (if l.more then 1 else 0)
