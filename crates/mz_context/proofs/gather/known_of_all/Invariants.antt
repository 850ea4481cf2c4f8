use Rattle.std.proofs.Common.{◌≡◌, take}
use Rattle.std.specs.Prelude.{flat_map}
use Rattle.mz_context.specs.Gather.{known}
use Rattle.mz_context.proofs.gather.known_of_all.Given as goal

abbrev pub invariant-loop-n : goal.invariant-loop-n
invariant-loop-n l = l.out ≡ flat_map (known l.constants) (take l.n-index l.ns)
