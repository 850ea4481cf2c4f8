use Rattle.std.proofs.Common.{◌≡◌}
use Rattle.mz_congruence.specs.Classes.{root}
use Rattle.mz_congruence.proofs.classes.root_of.Given as goal

abbrev pub invariant-up : goal.invariant-up
invariant-up l = root l.c l.k ≡ root l.c l.i

abbrev pub decreases-up : goal.decreases-up
decreases-up l = l.k
