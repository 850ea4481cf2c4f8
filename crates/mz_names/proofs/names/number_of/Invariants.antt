use Rattle.std.proofs.Common.{◌≡◌, ◌≤◌, length}
use Rattle.mz_names.specs.Names.{latest_up_to, number_of}
use Rattle.mz_names.proofs.names.number_of.Given as goal

abbrev pub invariant-loop-n : goal.invariant-loop-n
invariant-loop-n l = (l.n ≤ length l.ks) × (latest_up_to l.name l.ks l.n ≡ number_of l.name l.ks)

abbrev pub decreases-loop-n : goal.decreases-loop-n
decreases-loop-n l = l.n
