use Rattle.std.proofs.Common.{length}
use Rattle.mz_structure_items.proofs.closed.+loci_under.Given as goal

abbrev pub decreases-loci_under : goal.decreases-loci_under
decreases-loci_under l = length l.tys.now
