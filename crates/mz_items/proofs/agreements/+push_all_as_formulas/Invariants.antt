use Rattle.std.proofs.Common.{length}
use Rattle.mz_items.proofs.agreements.+push_all_as_formulas.Given as goal

abbrev pub decreases-push_all_as_formulas : goal.decreases-push_all_as_formulas
decreases-push_all_as_formulas l = length l.cases.now
