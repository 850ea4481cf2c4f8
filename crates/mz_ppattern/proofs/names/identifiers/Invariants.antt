use Rattle.std.proofs.Common.{false, length, ℕ}
use Rattle.mz_pstep.proofs.DividedLists.{ListSoFar}
use Rattle.mz_ppattern.specs.Classes.{goes_on_names}
use Rattle.mz_ppattern.specs.Forms.{identifier_form, never_ends}
use Rattle.mz_ppattern.proofs.NameSteps.{linked_identifiers}
use Rattle.mz_ppattern.proofs.names.identifiers.Given as goal

abbrev pub invariant-more : goal.invariant-more
invariant-more l = (room : ℕ) → ListSoFar identifier_form never_ends goes_on_names linked_identifiers room l.first false l.items.items l.fn.reader.rest.now l.reader.rest.now

abbrev pub decreases-more : goal.decreases-more
decreases-more l = length l.reader.rest.now
