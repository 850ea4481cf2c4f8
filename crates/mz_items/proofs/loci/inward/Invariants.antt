use Rattle.std.proofs.Common.{◌≡◌, ◌+◌}
use Rattle.mz_items.specs.Loci.{inward}
use Rattle.mz_items.proofs.loci.inward.Given as goal

abbrev pub invariant-loop-k : goal.invariant-loop-k
invariant-loop-k l = (l.out ≡ inward l.depth l.k) × (l.index ≡ l.depth + l.k)
