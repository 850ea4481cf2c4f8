use Rattle.std.proofs.lemmas.Result.{err_from_is_err_and}
use Rattle.mz_ptype.specs.Forms.{goes_on_declared}
use Rattle.mz_pstep.proofs.DividedLists.{list_unread, list_begun, list_step, list_refused, list_found, shorter_list}
use Rattle.mz_tree_heading.specs.Rules.{field_ends_in_terms}
use Rattle.mz_ppart.specs.StructureForms.{field_form}
use Rattle.mz_ppart.proofs.FieldSteps.{linked_fields}
use Rattle.mz_ppart.proofs.structures.fields.Goals as goal

pub returns-in_err-first : goal.returns-in_err-first
returns-in_err-first c =
    let p = err_from_is_err_and c.from_residual.result c.from_residual.ensures.1 in
    rw (p.1, p.2) (list_unread field_form field_ends_in_terms goes_on_declared linked_fields c.args.room _ _ _ c.in_err-first.ensures)

pub more-init : goal.more-init
more-init c = list_begun field_form field_ends_in_terms goes_on_declared linked_fields c.args.room _ _ _ _ _ c.in_ok-first.ensures.0 c.in_ok-first.ensures.1 c.new-items.ensures.items

pub more-preserved : goal.more-preserved
more-preserved c =
    let taken = rw c.in-Some.is at c.takes_comma.ensures in
    list_step field_form field_ends_in_terms goes_on_declared linked_fields c.args.room _ _ _ _ _ _ _ _ _ _ _ c.more.invariant taken.1 taken.0 c.in_ok-tree.ensures.0 c.in_ok-tree.ensures.1 c.in_ok-push.ensures.items

pub more-smaller : goal.more-smaller
more-smaller c =
    let taken = rw c.in-Some.is at c.takes_comma.ensures in
    shorter_list field_form field_ends_in_terms goes_on_declared linked_fields _ c.args.room _ _ _ _ taken.0 c.in_ok-tree.ensures.0

pub returns-in_err-tree : goal.returns-in_err-tree
returns-in_err-tree c =
    let p = err_from_is_err_and c.from_residual-in_err-tree.result c.from_residual-in_err-tree.ensures.1 in
    let taken = rw c.in-Some.is at c.takes_comma.ensures in
    rw (p.1, p.2) (list_refused field_form field_ends_in_terms goes_on_declared linked_fields c.args.room _ _ _ _ _ _ _ _ _ c.more.invariant taken.1 taken.0 c.in_err-tree.ensures)

pub returns : goal.returns
returns c =
    let none = rw c.in_default.is at c.takes_comma.ensures in
    list_found field_form field_ends_in_terms goes_on_declared linked_fields c.args.room _ _ _ _ _ _ c.more.invariant none
