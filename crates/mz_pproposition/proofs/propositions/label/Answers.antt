use Rattle.std.proofs.lemmas.Result.{err_from_is_err_and}
use Rattle.mz_pproposition.proofs.PropositionSteps.{label_refused, label_colon_refused, label_found}
use Rattle.mz_pproposition.proofs.propositions.label.Goals as goal

pub returns-in_err-name : goal.returns-in_err-name
returns-in_err-name c = λ room.
    let p = err_from_is_err_and c.from_residual.result c.from_residual.ensures.1 in
    rw (p.1, p.2) (label_refused room _ _ _ c.in_err-name.ensures)

pub returns-in_err-colon : goal.returns-in_err-colon
returns-in_err-colon c = λ room.
    let p = err_from_is_err_and c.from_residual-in_err-colon.result c.from_residual-in_err-colon.ensures.1 in
    rw (p.1, p.2) (label_colon_refused room _ _ _ _ _ c.in_ok-name.ensures c.in_err-colon.ensures)

pub returns : goal.returns
returns c = λ room. label_found room _ _ _ _ _ c.in_ok-name.ensures c.in_ok-colon.ensures
