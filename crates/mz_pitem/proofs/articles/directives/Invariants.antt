use Rattle.std.proofs.Common.{length, ℕ}
use Rattle.mz_ppart.proofs.ListedSteps.{ListedSoFar}
use Rattle.mz_ppart.specs.Forms.{directive_form}
use Rattle.mz_pitem.specs.Classes.{begins_directive, items}
use Rattle.mz_pitem.proofs.ArticleSteps.{repeats_directives}
use Rattle.mz_pitem.proofs.articles.directives.Given as goal

abbrev pub invariant-list : goal.invariant-list
invariant-list l = (room : ℕ) → ListedSoFar directive_form begins_directive begins_directive repeats_directives room l.items.items l.fn.reader.rest.now l.reader.rest.now

abbrev pub decreases-list : goal.decreases-list
decreases-list l = length l.reader.rest.now
