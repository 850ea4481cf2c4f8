use Rattle.std.proofs.Common.{◌≡◌, ◌++◌}
use Rattle.mz_context.specs.Gather.{rounds, reached}
use Rattle.mz_context.proofs.gather.reached.Given as goal

abbrev pub invariant-more : goal.invariant-more
invariant-more l = l.met.items ++ rounds l.left l.constants l.met.items l.last.items ≡ reached l.constants l.fn.first

abbrev pub decreases-more : goal.decreases-more
decreases-more l = l.left
