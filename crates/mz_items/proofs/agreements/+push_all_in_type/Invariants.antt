use Rattle.std.proofs.Common.{length}
use Rattle.mz_items.proofs.agreements.+push_all_in_type.Given as goal

abbrev pub decreases-push_all_in_type : goal.decreases-push_all_in_type
decreases-push_all_in_type l = length l.cases.now
