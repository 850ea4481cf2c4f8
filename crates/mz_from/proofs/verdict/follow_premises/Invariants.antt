use Rattle.std.proofs.Common.{◌≡◌, length}
use Rattle.mz_from.specs.Verdict.{followed_premises}
use Rattle.mz_from.proofs.verdict.follow_premises.Given as goal

abbrev pub invariant-loop-p : goal.invariant-loop-p
invariant-loop-p l = followed_premises l.ps l.ss l.letters ≡ followed_premises l.premises l.cited l.initial.letters

abbrev pub decreases-loop-p : goal.decreases-loop-p
decreases-loop-p l = length l.ps
