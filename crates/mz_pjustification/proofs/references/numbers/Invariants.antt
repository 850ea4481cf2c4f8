use Rattle.std.proofs.Common.{◌≡◌, ◌≤◌, ℕ, length}
use Rattle.mz_pjustification.proofs.ReferenceSteps.{NumbersSoFar}
use Rattle.mz_pjustification.proofs.references.numbers.Given as goal

abbrev pub invariant-more : goal.invariant-more
invariant-more l = ((room : ℕ) → NumbersSoFar room l.more.items l.fn.reader.rest.now l.reader.rest.now) × (l.first ≡ l.fn.first) × (length l.reader.rest.now ≤ length l.fn.reader.rest.now)

abbrev pub decreases-more : goal.decreases-more
decreases-more l = length l.reader.rest.now
