use Rattle.std.proofs.Common.{◌≡◌, length}
use Rattle.mz_walk.specs.Compact.{sides_keep}
use Rattle.mz_compact.proofs.sides.sides_keep.Given as goal

abbrev pub invariant-loop-k : goal.invariant-loop-k
invariant-loop-k l = sides_keep l.walker.env.now l.ctx l.rest l.equations ≡ sides_keep l.walker.env.now l.ctx l.sides l.ss

abbrev pub decreases-loop-k : goal.decreases-loop-k
decreases-loop-k l = length l.rest
