use Rattle.std.proofs.Common.{refl}
use Rattle.std.proofs.lemmas.Result.{err_from_is_err_and}
use Rattle.mz_ptype.proofs.DeclarationSteps.{declared_none, declared_step, rest_refused, rest_found, shorter_declared}
use Rattle.mz_ptype.proofs.declarations.rest_of_declarations.Goals as goal

pub more-init : goal.more-init
more-init c = (declared_none _ _ _ _ _ _ c.ends_in_terms-behind_terms.ensures c.new-more.ensures.items, refl)

pub more-preserved : goal.more-preserved
more-preserved c =
    let taken = rw c.in-Some.is at c.takes_comma.ensures in
    (declared_step _ _ _ _ _ _ _ _ _ _ _ _ _ c.more.invariant.0 c.in_ok-push.ensures.items taken c.in_ok-tree.ensures c.ends_in_terms-behind_terms-in-Some.ensures, c.more.invariant.1)

pub more-smaller : goal.more-smaller
more-smaller c =
    let taken = rw c.in-Some.is at c.takes_comma.ensures in
    shorter_declared _ _ _ _ _ _ _ _ taken c.in_ok-tree.ensures

pub returns-in_err-tree : goal.returns-in_err-tree
returns-in_err-tree c =
    let p = err_from_is_err_and c.from_residual.result c.from_residual.ensures.1 in
    let taken = rw c.in-Some.is at c.takes_comma.ensures in
    rw (p.1, p.2) (rest_refused _ _ _ _ _ _ _ _ _ _ _ c.more.invariant.0 taken c.in_err-tree.ensures)

pub returns : goal.returns
returns c =
    let none = rw c.in_default.is at c.takes_comma.ensures in
    rest_found _ _ _ _ _ c.more.more _ _ _ c.more.invariant.1 c.more.invariant.0 none
