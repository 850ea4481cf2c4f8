use Rattle.std.proofs.Common.{false}
use Rattle.std.proofs.lemmas.Result.{err_from_is_err_and}
use Rattle.mz_tree_proof.specs.Rules.{taken_ends_in_list}
use Rattle.mz_pstep.specs.Forms.{taken_form, goes_on_list}
use Rattle.mz_pstep.proofs.DividedLists.{list_unread, list_begun, list_step, list_refused, list_found, shorter_list}
use Rattle.mz_pstep.proofs.ListSteps.{linked_taken, taken_off}
use Rattle.mz_pstep.proofs.lists.takens.Goals as goal

pub returns-in_err-first : goal.returns-in_err-first
returns-in_err-first c =
    let p = err_from_is_err_and c.from_residual.result c.from_residual.ensures.1 in
    rw (p.1, p.2) (list_unread taken_form taken_ends_in_list goes_on_list linked_taken c.args.room _ _ _ c.in_err-first.ensures)

pub more-init : goal.more-init
more-init c = list_begun taken_form taken_ends_in_list goes_on_list linked_taken c.args.room _ false _ _ _ c.in_ok-first.ensures (taken_off _ c.in_ok-first.ensures.found.is) c.new-items.ensures.items

pub more-preserved : goal.more-preserved
more-preserved c =
    let taken = rw c.in-Some.is at c.takes_comma.ensures in
    list_step taken_form taken_ends_in_list goes_on_list linked_taken c.args.room _ false false _ _ _ _ _ _ _ _ c.more.invariant taken.1 taken.0 c.in_ok-tree.ensures (taken_off _ c.in_ok-tree.ensures.found.is) c.in_ok-push.ensures.items

pub more-smaller : goal.more-smaller
more-smaller c =
    let taken = rw c.in-Some.is at c.takes_comma.ensures in
    shorter_list taken_form taken_ends_in_list goes_on_list linked_taken _ c.args.room _ _ _ _ taken.0 c.in_ok-tree.ensures

pub returns-in_err-tree : goal.returns-in_err-tree
returns-in_err-tree c =
    let p = err_from_is_err_and c.from_residual-in_err-tree.result c.from_residual-in_err-tree.ensures.1 in
    let taken = rw c.in-Some.is at c.takes_comma.ensures in
    rw (p.1, p.2) (list_refused taken_form taken_ends_in_list goes_on_list linked_taken c.args.room _ false _ _ _ _ _ _ _ c.more.invariant taken.1 taken.0 c.in_err-tree.ensures)

pub returns : goal.returns
returns c =
    let none = rw c.in_default.is at c.takes_comma.ensures in
    list_found taken_form taken_ends_in_list goes_on_list linked_taken c.args.room _ false _ _ _ _ c.more.invariant none
