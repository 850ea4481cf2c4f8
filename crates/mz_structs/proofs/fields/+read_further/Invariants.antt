use Rattle.std.proofs.Common.{length}
use Rattle.mz_structs.proofs.fields.+read_further.Given as goal

abbrev pub decreases-read_further : goal.decreases-read_further
decreases-read_further l = length l.ts.now
