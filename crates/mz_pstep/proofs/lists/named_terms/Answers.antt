use Rattle.std.proofs.Common.{false}
use Rattle.std.proofs.lemmas.Result.{err_from_is_err_and}
use Rattle.mz_tree_proof.specs.Rules.{named_term_ends_in_list}
use Rattle.mz_pstep.specs.Forms.{named_term_form, goes_on_list}
use Rattle.mz_pstep.proofs.DividedLists.{list_unread, list_begun, list_step, list_refused, list_found, shorter_list}
use Rattle.mz_pstep.proofs.ListSteps.{linked_named, named_off}
use Rattle.mz_pstep.proofs.lists.named_terms.Goals as goal

pub returns-in_err-first : goal.returns-in_err-first
returns-in_err-first c =
    let p = err_from_is_err_and c.from_residual.result c.from_residual.ensures.1 in
    rw (p.1, p.2) (list_unread named_term_form named_term_ends_in_list goes_on_list linked_named c.args.room _ _ _ c.in_err-first.ensures)

pub more-init : goal.more-init
more-init c = list_begun named_term_form named_term_ends_in_list goes_on_list linked_named c.args.room _ false _ _ _ c.in_ok-first.ensures (named_off c.in_ok-first.first c.in_ok-first.ensures.found.is) c.new-items.ensures.items

pub more-preserved : goal.more-preserved
more-preserved c =
    let taken = rw c.in-Some.is at c.takes_comma.ensures in
    list_step named_term_form named_term_ends_in_list goes_on_list linked_named c.args.room _ false false _ _ _ _ _ _ _ _ c.more.invariant taken.1 taken.0 c.in_ok-tree.ensures (named_off c.in_ok-tree.tree c.in_ok-tree.ensures.found.is) c.in_ok-push.ensures.items

pub more-smaller : goal.more-smaller
more-smaller c =
    let taken = rw c.in-Some.is at c.takes_comma.ensures in
    shorter_list named_term_form named_term_ends_in_list goes_on_list linked_named _ c.args.room _ _ _ _ taken.0 c.in_ok-tree.ensures

pub returns-in_err-tree : goal.returns-in_err-tree
returns-in_err-tree c =
    let p = err_from_is_err_and c.from_residual-in_err-tree.result c.from_residual-in_err-tree.ensures.1 in
    let taken = rw c.in-Some.is at c.takes_comma.ensures in
    rw (p.1, p.2) (list_refused named_term_form named_term_ends_in_list goes_on_list linked_named c.args.room _ false _ _ _ _ _ _ _ c.more.invariant taken.1 taken.0 c.in_err-tree.ensures)

pub returns : goal.returns
returns c =
    let none = rw c.in_default.is at c.takes_comma.ensures in
    list_found named_term_form named_term_ends_in_list goes_on_list linked_named c.args.room _ false _ _ _ _ c.more.invariant none
