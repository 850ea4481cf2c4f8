use Rattle.std.proofs.Common.{◌≡◌, length}
use Rattle.mz_walk.specs.Earlier.{told_of_sides}
use Rattle.mz_compact.proofs.earlier.told_of_sides.Given as goal

abbrev pub invariant-loop-k : goal.invariant-loop-k
invariant-loop-k l = told_of_sides l.walker.env.now l.ctx l.semicolon l.n l.rest l.r ≡ told_of_sides l.walker.env.now l.ctx l.semicolon l.count l.sides l.r

abbrev pub decreases-loop-k : goal.decreases-loop-k
decreases-loop-k l = length l.rest
