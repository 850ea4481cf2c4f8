use Rattle.std.proofs.Common.{◌≡◌, take, true}
use Rattle.mz_congruence.specs.InstanceAt.{are_instances_at}
use Rattle.mz_congruence.proofs.lookup.+instance.Given as goal

abbrev pub invariant-are_instances_at-loop-i : goal.invariant-are_instances_at-loop-i
invariant-are_instances_at-loop-i l = are_instances_at l.terms l.args (take l.i l.us) (take l.i l.places) ≡ true
