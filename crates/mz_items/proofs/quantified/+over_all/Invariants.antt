use Rattle.std.proofs.Common.{length}
use Rattle.mz_items.proofs.quantified.+over_all.Given as goal

abbrev pub decreases-over_all : goal.decreases-over_all
decreases-over_all l = length l.loci.now
