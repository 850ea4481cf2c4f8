use Rattle.std.proofs.Common.{rules, ◌≡◌, ◌∙◌, ap, false}
use Rattle.std.proofs.lemmas.Result.{err_from_is_err_and}
use Rattle.mz_tree.specs.Rules.{ends_in_terms}
use Rattle.mz_tree.specs.Views.{type_of}
use Rattle.mz_ptype.specs.Forms.{whole_type, goes_on_declared}
use Rattle.mz_pstep.proofs.DividedLists.{list_unread, list_begun, list_step, list_refused, list_found, shorter_list}
use Rattle.mz_pstep.proofs.ListSteps.{linked_types}
use Rattle.mz_pstep.proofs.lists.types.Goals as goal

pub returns-in_err-first_node : goal.returns-in_err-first_node
returns-in_err-first_node c =
    let p = err_from_is_err_and c.from_residual.result c.from_residual.ensures.1 in
    rw (p.1, p.2) (list_unread (whole_type false) ends_in_terms goes_on_declared linked_types c.args.room _ _ _ c.in_err-first_node.ensures)

pub more-init : goal.more-init
more-init c =
    let same : c.deref.result.now ≡ c.in_ok-first_node.first_node.value = search rules in
    let ends = c.type_ends_in_terms-behind_terms.ensures ∙ ap (λ z. ends_in_terms (type_of z)) same in
    list_begun (whole_type false) ends_in_terms goes_on_declared linked_types c.args.room _ _ _ _ _ c.in_ok-first_node.ensures ends c.new-items.ensures.items

pub more-preserved : goal.more-preserved
more-preserved c =
    let taken = rw c.in-Some.is at c.takes_comma.ensures in
    let same : c.deref-in-Some.result.now ≡ c.in_ok-node.node.value = search rules in
    let ends = c.type_ends_in_terms-behind_terms-in-Some.ensures ∙ ap (λ z. ends_in_terms (type_of z)) same in
    let grown = rw c.from_node-tree.ensures at c.in_ok-push.ensures.items in
    list_step (whole_type false) ends_in_terms goes_on_declared linked_types c.args.room _ _ _ _ _ _ _ _ _ _ _ c.more.invariant taken.1 taken.0 c.in_ok-node.ensures ends grown

pub more-smaller : goal.more-smaller
more-smaller c =
    let taken = rw c.in-Some.is at c.takes_comma.ensures in
    shorter_list (whole_type false) ends_in_terms goes_on_declared linked_types _ c.args.room _ _ _ _ taken.0 c.in_ok-node.ensures

pub returns-in_err-node : goal.returns-in_err-node
returns-in_err-node c =
    let p = err_from_is_err_and c.from_residual-in_err-node.result c.from_residual-in_err-node.ensures.1 in
    let taken = rw c.in-Some.is at c.takes_comma.ensures in
    rw (p.1, p.2) (list_refused (whole_type false) ends_in_terms goes_on_declared linked_types c.args.room _ _ _ _ _ _ _ _ _ c.more.invariant taken.1 taken.0 c.in_err-node.ensures)

pub returns : goal.returns
returns c =
    let none = rw c.in_default.is at c.takes_comma.ensures in
    rw c.from_node-first.ensures (list_found (whole_type false) ends_in_terms goes_on_declared linked_types c.args.room _ _ _ _ _ _ c.more.invariant none)
