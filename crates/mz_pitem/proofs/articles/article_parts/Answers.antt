use Rattle.std.proofs.Common.{rules, ◌≡◌, true, false}
use Rattle.std.proofs.lemmas.Result.{err_from_is_err_and}
use Rattle.mz_ppattern.specs.Optional.{next_has}
use Rattle.mz_ppart.proofs.ListedSteps.{listed_none, listed_step, listed_refused, listed_found, shorter_listed}
use Rattle.mz_pitem.specs.Classes.{begins_article_part, items}
use Rattle.mz_pitem.specs.Forms.{article_part_form}
use Rattle.mz_pitem.proofs.ArticleSteps.{begun_part, repeats_parts}
use Rattle.mz_pitem.proofs.articles.article_parts.Goals as goal

pub list-init : goal.list-init
list-init c = listed_none article_part_form begins_article_part begins_article_part repeats_parts c.args.room _ _ c.new-items.ensures.items

pub list-preserved : goal.list-preserved
list-preserved c =
    let on : next_has begins_article_part c.list.reader.rest.now ≡ true = search rules in
    listed_step article_part_form begins_article_part begins_article_part repeats_parts begun_part c.args.room _ _ _ _ _ _ c.list.invariant on c.in_ok-next.ensures c.in_ok-push.ensures.items

pub list-smaller : goal.list-smaller
list-smaller c = shorter_listed article_part_form begins_article_part begins_article_part repeats_parts c.args.room _ _ _ c.in_ok-next.ensures

pub returns-in_err-next : goal.returns-in_err-next
returns-in_err-next c =
    let p = err_from_is_err_and c.from_residual.result c.from_residual.ensures.1 in
    let on : next_has begins_article_part c.list.reader.rest.now ≡ true = search rules in
    rw (p.1, p.2) (listed_refused article_part_form begins_article_part begins_article_part repeats_parts begun_part c.args.room _ _ _ _ _ c.list.invariant on c.in_err-next.ensures)

pub returns : goal.returns
returns c =
    let off : next_has begins_article_part c.list.reader.rest.now ≡ false = search rules in
    listed_found article_part_form begins_article_part begins_article_part repeats_parts c.args.room _ _ _ c.list.invariant off
