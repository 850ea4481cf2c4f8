use Rattle.std.proofs.Common.{rules, ◌≡◌, true, false}
use Rattle.std.proofs.lemmas.Result.{err_from_is_err_and}
use Rattle.mz_ppattern.specs.Optional.{next_has}
use Rattle.mz_ppart.proofs.ListedSteps.{listed_none, listed_step, listed_refused, listed_found, shorter_listed}
use Rattle.mz_ppart.specs.Forms.{directive_form}
use Rattle.mz_pitem.specs.Classes.{begins_directive, items}
use Rattle.mz_pitem.proofs.ArticleSteps.{begun_directive, repeats_directives}
use Rattle.mz_pitem.proofs.articles.directives.Goals as goal

pub list-init : goal.list-init
list-init c = λ room. listed_none directive_form begins_directive begins_directive repeats_directives room _ _ c.new-items.ensures.items

pub list-preserved : goal.list-preserved
list-preserved c = λ room.
    let on : next_has begins_directive c.list.reader.rest.now ≡ true = search rules in
    listed_step directive_form begins_directive begins_directive repeats_directives begun_directive room _ _ _ _ _ _ (c.list.invariant room) on (c.in_ok-next.ensures room) c.in_ok-push.ensures.items

pub list-smaller : goal.list-smaller
list-smaller c = shorter_listed directive_form begins_directive begins_directive repeats_directives 0 _ _ _ (c.in_ok-next.ensures 0)

pub returns-in_err-next : goal.returns-in_err-next
returns-in_err-next c = λ room.
    let p = err_from_is_err_and c.from_residual.result c.from_residual.ensures.1 in
    let on : next_has begins_directive c.list.reader.rest.now ≡ true = search rules in
    rw (p.1, p.2) (listed_refused directive_form begins_directive begins_directive repeats_directives begun_directive room _ _ _ _ _ (c.list.invariant room) on (c.in_err-next.ensures room))

pub returns : goal.returns
returns c = λ room.
    let off : next_has begins_directive c.list.reader.rest.now ≡ false = search rules in
    listed_found directive_form begins_directive begins_directive repeats_directives room _ _ _ (c.list.invariant room) off
