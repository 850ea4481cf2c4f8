use Rattle.std.proofs.Common.{◌≡◌, ◌++◌, length}
use Rattle.mz_private.specs.Private.{constants_of}
use Rattle.mz_private.proofs.inside.constants_of.Given as goal

abbrev pub invariant-loop-ty : goal.invariant-loop-ty
invariant-loop-ty l = l.out ++ constants_of l.number l.rest ≡ constants_of l.first l.tys

abbrev pub decreases-loop-ty : goal.decreases-loop-ty
decreases-loop-ty l = length l.rest
