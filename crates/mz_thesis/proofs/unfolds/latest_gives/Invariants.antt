use Rattle.std.proofs.Common.{◌≤◌, length}
use Rattle.mz_thesis.proofs.UnfoldingLemmas.{SoFar}
use Rattle.mz_thesis.proofs.unfolds.latest_gives.Given as goal

abbrev pub invariant-loop-count : goal.invariant-loop-count
invariant-loop-count l = (l.count ≤ length l.unfoldings) × SoFar l.clauses l.constants l.sought l.terms l.unfoldings l.count

abbrev pub decreases-loop-count : goal.decreases-loop-count
decreases-loop-count l = l.count
