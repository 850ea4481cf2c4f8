use Rattle.std.proofs.Common.{◌≡◌, true, take}
use Rattle.std.specs.Prelude.{nat_le}
use Rattle.mz_logic.specs.Term.{terms_of}
use Rattle.mz_sizes.specs.Sizes.{args_depth}
use Rattle.mz_sizes.proofs.depth.+depth.Given as goal

abbrev pub invariant-terms_within-loop-t : goal.invariant-terms_within-loop-t
invariant-terms_within-loop-t l = true ≡ nat_le (args_depth (terms_of (take l.t-index l.t-items))) l.most
