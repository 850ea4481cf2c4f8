use Rattle.std.proofs.lemmas.Result.{err_from_is_err_and}
use Rattle.mz_pproposition.proofs.PropositionSteps.{such_refused, such_that_refused, condition_refused, such_found}
use Rattle.mz_pproposition.proofs.propositions.such.Goals as goal

pub returns-in_err-such : goal.returns-in_err-such
returns-in_err-such c =
    let p = err_from_is_err_and c.from_residual.result c.from_residual.ensures.1 in
    rw (p.1, p.2) (such_refused c.args.room _ _ _ c.in_err-such.ensures)

pub returns-in_err-that : goal.returns-in_err-that
returns-in_err-that c =
    let p = err_from_is_err_and c.from_residual-in_err-that.result c.from_residual-in_err-that.ensures.1 in
    rw (p.1, p.2) (such_that_refused c.args.room _ _ _ c.in_ok-such.ensures _ _ c.in_err-that.ensures)

pub returns-in_err-propositions : goal.returns-in_err-propositions
returns-in_err-propositions c =
    let p = err_from_is_err_and c.from_residual-in_err-propositions.result c.from_residual-in_err-propositions.ensures.1 in
    rw (p.1, p.2) (condition_refused c.args.room _ _ _ c.in_ok-such.ensures _ _ c.in_ok-that.ensures _ _ c.in_err-propositions.ensures)

pub returns : goal.returns
returns c = such_found c.args.room _ _ _ c.in_ok-such.ensures _ _ c.in_ok-that.ensures _ _ c.in_ok-propositions.ensures
