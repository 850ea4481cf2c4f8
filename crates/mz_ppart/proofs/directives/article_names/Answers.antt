use Rattle.std.proofs.Common.{false, refl}
use Rattle.std.proofs.lemmas.Result.{err_from_is_err_and}
use Rattle.mz_pstep.proofs.DividedLists.{list_unread, list_begun, list_step, list_refused, list_found, shorter_list}
use Rattle.mz_ppattern.specs.Classes.{goes_on_names}
use Rattle.mz_ppattern.specs.Forms.{never_ends}
use Rattle.mz_ppart.specs.Forms.{article_name_form}
use Rattle.mz_ppart.proofs.DirectiveSteps.{linked_article_names}
use Rattle.mz_ppart.proofs.directives.article_names.Goals as goal

pub returns-in_err-first : goal.returns-in_err-first
returns-in_err-first c = λ room.
    let p = err_from_is_err_and c.from_residual.result c.from_residual.ensures.1 in
    rw (p.1, p.2) (list_unread article_name_form never_ends goes_on_names linked_article_names room _ _ _ (c.in_err-first.ensures room))

pub more-init : goal.more-init
more-init c = λ room. list_begun article_name_form never_ends goes_on_names linked_article_names room _ false _ _ _ (c.in_ok-first.ensures room) refl c.new-items.ensures.items

pub more-preserved : goal.more-preserved
more-preserved c = λ room.
    let taken = rw c.in-Some.is at c.takes_comma.ensures in
    list_step article_name_form never_ends goes_on_names linked_article_names room _ false false _ _ _ _ _ _ _ _ (c.more.invariant room) taken.1 taken.0 (c.in_ok-tree.ensures room) refl c.in_ok-push.ensures.items

pub more-smaller : goal.more-smaller
more-smaller c =
    let taken = rw c.in-Some.is at c.takes_comma.ensures in
    shorter_list article_name_form never_ends goes_on_names linked_article_names _ 0 _ _ _ _ taken.0 (c.in_ok-tree.ensures 0)

pub returns-in_err-tree : goal.returns-in_err-tree
returns-in_err-tree c = λ room.
    let p = err_from_is_err_and c.from_residual-in_err-tree.result c.from_residual-in_err-tree.ensures.1 in
    let taken = rw c.in-Some.is at c.takes_comma.ensures in
    rw (p.1, p.2) (list_refused article_name_form never_ends goes_on_names linked_article_names room _ false _ _ _ _ _ _ _ (c.more.invariant room) taken.1 taken.0 (c.in_err-tree.ensures room))

pub returns : goal.returns
returns c = λ room.
    let none = rw c.in_default.is at c.takes_comma.ensures in
    list_found article_name_form never_ends goes_on_names linked_article_names room _ false _ _ _ _ (c.more.invariant room) none
