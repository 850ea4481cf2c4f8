use Rattle.std.proofs.lemmas.Result.{err_from_is_err_and}
use Rattle.mz_ppattern.proofs.NameSteps.{identifier_refused, identifier_found}
use Rattle.mz_ppattern.proofs.names.identifier.Goals as goal

pub returns-in_err-name : goal.returns-in_err-name
returns-in_err-name c = λ room.
    let p = err_from_is_err_and c.from_residual.result c.from_residual.ensures.1 in
    rw (p.1, p.2) (identifier_refused room _ _ _ c.in_err-name.ensures)

pub returns : goal.returns
returns c = λ room. identifier_found room _ _ _ c.in_ok-name.ensures
