use Rattle.std.proofs.Common.{length}
use Rattle.mz_ppart.proofs.ListedSteps.{ListedSoFar}
use Rattle.mz_pitem.specs.Classes.{begins_article_part, items}
use Rattle.mz_pitem.specs.Forms.{article_part_form}
use Rattle.mz_pitem.proofs.ArticleSteps.{repeats_parts}
use Rattle.mz_pitem.proofs.articles.article_parts.Given as goal

abbrev pub invariant-list : goal.invariant-list
invariant-list l = ListedSoFar article_part_form begins_article_part begins_article_part repeats_parts l.fn.room l.items.items l.fn.reader.rest.now l.reader.rest.now

abbrev pub decreases-list : goal.decreases-list
decreases-list l = length l.reader.rest.now
