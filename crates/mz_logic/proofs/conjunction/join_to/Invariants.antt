use Rattle.std.proofs.Common.{◌≡◌, drop}
use Rattle.mz_logic.specs.Connectives.{joined_to}
use Rattle.mz_logic.proofs.conjunction.join_to.Given as goal

abbrev pub invariant-loop-g : goal.invariant-loop-g
invariant-loop-g l = joined_to l.all (drop l.g-index l.others) ≡ joined_to l.f l.others
