use Rattle.std.proofs.Common.{length}
use Rattle.mz_structs.proofs.fields.+first_further.Given as goal

abbrev pub decreases-first_further : goal.decreases-first_further
decreases-first_further l = length l.ts.now
