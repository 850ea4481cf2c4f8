use Rattle.std.proofs.Common.{◌≡◌, true, take}
use Rattle.std.specs.Prelude.{nat_le}
use Rattle.mz_sizes.specs.Sizes.{adjectives_depth}
use Rattle.mz_sizes.proofs.depth.adjectives_within.Given as goal

abbrev pub invariant-loop-a : goal.invariant-loop-a
invariant-loop-a l = true ≡ nat_le (adjectives_depth (take l.a-index l.a-items)) l.most
