use Rattle.std.proofs.Common.{ℕ, length}
use Rattle.mz_pjustification.specs.Forms.{ReferencesRead}
use Rattle.mz_pjustification.proofs.references.references.Given as goal

abbrev pub invariant-more : goal.invariant-more
invariant-more l = (room : ℕ) → ReferencesRead room l.first l.more.items l.comma l.fn.reader.rest.now l.reader.rest.now

abbrev pub decreases-more : goal.decreases-more
decreases-more l = length l.reader.rest.now
