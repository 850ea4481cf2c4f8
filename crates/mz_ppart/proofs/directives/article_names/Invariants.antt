use Rattle.std.proofs.Common.{false, length, ℕ}
use Rattle.mz_pstep.proofs.DividedLists.{ListSoFar}
use Rattle.mz_ppattern.specs.Classes.{goes_on_names}
use Rattle.mz_ppattern.specs.Forms.{never_ends}
use Rattle.mz_ppart.specs.Forms.{article_name_form}
use Rattle.mz_ppart.proofs.DirectiveSteps.{linked_article_names}
use Rattle.mz_ppart.proofs.directives.article_names.Given as goal

abbrev pub invariant-more : goal.invariant-more
invariant-more l = (room : ℕ) → ListSoFar article_name_form never_ends goes_on_names linked_article_names room l.first false l.items.items l.fn.reader.rest.now l.reader.rest.now

abbrev pub decreases-more : goal.decreases-more
decreases-more l = length l.reader.rest.now
