use Rattle.std.proofs.Common.{◌+◌, ◌*◌}
use Rattle.std.specs.Prelude.{if◌then◌else◌}
use Rattle.mz_congruence.specs.Classes.{total}
use Rattle.mz_congruence.specs.Closing.{State, DoneUnless}
use Rattle.mz_congruence.proofs.settle.settle.Given as goal

abbrev pub invariant-rounds : goal.invariant-rounds
invariant-rounds l = record { state : State l.graph l.c; done : DoneUnless l.more l.graph l.c }

abbrev pub decreases-rounds : goal.decreases-rounds
decreases-rounds l = 2 * total l.c + (if l.more then 1 else 0)
