use Rattle.std.proofs.lemmas.Result.{err_from_is_err_and}
use Rattle.mz_pproposition.proofs.PropositionSteps.{first_refused, more_refused, propositions_found}
use Rattle.mz_pproposition.proofs.propositions.propositions.Goals as goal

pub returns-in_err-first : goal.returns-in_err-first
returns-in_err-first c =
    let p = err_from_is_err_and c.from_residual.result c.from_residual.ensures.1 in
    rw (p.1, p.2) (first_refused c.args.room _ _ _ c.in_err-first.ensures)

pub returns-in_err-more : goal.returns-in_err-more
returns-in_err-more c =
    let p = err_from_is_err_and c.from_residual-in_err-more.result c.from_residual-in_err-more.ensures.1 in
    rw (p.1, p.2) (more_refused c.args.room _ _ _ _ _ c.in_ok-first.ensures c.in_err-more.ensures)

pub returns : goal.returns
returns c = propositions_found c.args.room _ _ _ _ _ c.in_ok-first.ensures c.in_ok-more.ensures
