use Rattle.std.proofs.Common.{length}
use Rattle.mz_structs.proofs.heading.+push_spellings.Given as goal

abbrev pub decreases-push_spellings : goal.decreases-push_spellings
decreases-push_spellings l = length l.ts.now
