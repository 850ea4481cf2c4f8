use Rattle.std.proofs.Common.{length}
use Rattle.mz_marks.proofs.SuffixLemmas.{On}
use Rattle.mz_marks.proofs.marks.marks_of.Given as goal

abbrev pub invariant-on : goal.invariant-on
invariant-on l = On l.fn.classes l.rest l.reserving l.pending_marks.items l.marks.items

abbrev pub decreases-on : goal.decreases-on
decreases-on l = length l.rest
