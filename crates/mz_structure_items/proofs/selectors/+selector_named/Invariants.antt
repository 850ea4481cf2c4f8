use Rattle.std.proofs.Common.{length}
use Rattle.mz_structure_items.proofs.selectors.+selector_named.Given as goal

abbrev pub decreases-selector_named : goal.decreases-selector_named
decreases-selector_named l = length l.xs.now
