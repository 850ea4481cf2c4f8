use Rattle.std.proofs.Common.{length}
use Rattle.std.specs.Prelude.{◌↔◌}
use Rattle.mz_fits.specs.Fits.{AllFit}
use Rattle.mz_answers.specs.Answers.{AreRight}
use Rattle.mz_answers.proofs.kept.all_fit_kept.Given as goal

abbrev pub invariant-loop-l : goal.invariant-loop-l
invariant-loop-l l = AreRight l.clauses l.constants l.answers × (AllFit l.clauses l.constants l.rest ↔ AllFit l.clauses l.constants l.ls)

abbrev pub decreases-loop-l : goal.decreases-loop-l
decreases-loop-l l = length l.rest
