use Rattle.std.proofs.Common.{length}
use Rattle.mz_items.proofs.agreements.+push_all_as_terms.Given as goal

abbrev pub decreases-push_all_as_terms : goal.decreases-push_all_as_terms
decreases-push_all_as_terms l = length l.cases.now
