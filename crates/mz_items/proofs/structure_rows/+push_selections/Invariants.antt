use Rattle.std.proofs.Common.{length}
use Rattle.mz_items.proofs.structure_rows.+push_selections.Given as goal

abbrev pub decreases-push_selections : goal.decreases-push_selections
decreases-push_selections l = length l.fs.now
