use Rattle.std.proofs.lemmas.Result.{err_from_is_err_and}
use Rattle.mz_ppattern.proofs.NameSteps.{selector_refused, selector_found}
use Rattle.mz_ppattern.proofs.names.selector.Goals as goal

pub returns-in_err-symbol : goal.returns-in_err-symbol
returns-in_err-symbol c = λ room.
    let p = err_from_is_err_and c.from_residual.result c.from_residual.ensures.1 in
    rw (p.1, p.2) (selector_refused room _ _ _ c.in_err-symbol.ensures)

pub returns : goal.returns
returns c = λ room. selector_found room _ _ _ c.in_ok-symbol.ensures
