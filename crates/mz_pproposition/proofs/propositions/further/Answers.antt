use Rattle.std.proofs.lemmas.Result.{err_from_is_err_and}
use Rattle.mz_pproposition.proofs.PropositionSteps.{further_none, further_step, further_refused, further_end, shorter_further}
use Rattle.mz_pproposition.proofs.propositions.further.Goals as goal

pub list-init : goal.list-init
list-init c = further_none c.args.room _ _ c.new-items.ensures.items

pub list-preserved : goal.list-preserved
list-preserved c =
    let taken = rw c.in-Some.is at c.takes_key.ensures in
    further_step c.args.room _ _ _ _ _ _ _ _ c.list.invariant taken c.in_ok-proposition.ensures c.in_ok-push.ensures.items

pub list-smaller : goal.list-smaller
list-smaller c =
    let taken = rw c.in-Some.is at c.takes_key.ensures in
    shorter_further c.args.room _ _ _ _ _ taken c.in_ok-proposition.ensures

pub returns-in_err-proposition : goal.returns-in_err-proposition
returns-in_err-proposition c =
    let p = err_from_is_err_and c.from_residual.result c.from_residual.ensures.1 in
    let taken = rw c.in-Some.is at c.takes_key.ensures in
    rw (p.1, p.2) (further_refused c.args.room _ _ _ _ _ _ _ c.list.invariant taken c.in_err-proposition.ensures)

pub returns : goal.returns
returns c =
    let none = rw c.in_default.is at c.takes_key.ensures in
    further_end c.args.room _ _ _ _ c.list.invariant none
