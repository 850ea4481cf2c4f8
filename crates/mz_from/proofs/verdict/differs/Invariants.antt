use Rattle.std.proofs.Common.{◌≡◌, ◌+◌, ℕ, length, Option}
use Rattle.mz_from.specs.Verdict.{Differs}
use Rattle.mz_from.proofs.verdict.differs.Given as goal

abbrev pub invariant-loop-p : goal.invariant-loop-p
invariant-loop-p l =
    (length l.ss ≡ length l.ps) × (l.above + length l.ps ≡ length l.premises) ×
    ((o : Option ℕ) → Differs l.letters l.above l.ps l.ss o → Differs l.letters 0 l.premises l.cited o)

abbrev pub decreases-loop-p : goal.decreases-loop-p
decreases-loop-p l = length l.ps
