use Rattle.std.proofs.Common.{◌≡◌, take}
use Rattle.mz_logic.specs.Term.{terms_of}
use Rattle.mz_instance_sizes.specs.Within.{sizes_at}
use Rattle.mz_instance_sizes.proofs.within.+size_at.Given as goal

abbrev pub invariant-sizes_at-loop-t : goal.invariant-sizes_at-loop-t
invariant-sizes_at-loop-t l = l.out ≡ sizes_at l.sizes l.depth (terms_of (take l.t-index l.t-items))
