use Rattle.std.proofs.Common.{length}
use Rattle.mz_items.proofs.scheme_rows.+push_letter_types.Given as goal

abbrev pub decreases-push_letter_types : goal.decreases-push_letter_types
decreases-push_letter_types l = length l.letters.now
