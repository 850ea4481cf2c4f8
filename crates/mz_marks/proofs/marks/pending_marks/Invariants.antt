use Rattle.std.proofs.Common.{length}
use Rattle.mz_marks.proofs.SuffixLemmas.{Back}
use Rattle.mz_marks.proofs.marks.pending_marks.Given as goal

abbrev pub invariant-back : goal.invariant-back
invariant-back l = Back l.fn.classes l.rest l.suffix l.out.items

abbrev pub decreases-back : goal.decreases-back
decreases-back l = length l.rest
