use Rattle.std.proofs.lemmas.Result.{err_from_is_err_and}
use Rattle.mz_pproposition.proofs.PropositionSteps.{that_refused, that_found, one_refused, one_found}
use Rattle.mz_pproposition.proofs.propositions.hypotheses.Goals as goal

pub returns-in_err-propositions-in-Some : goal.returns-in_err-propositions-in-Some
returns-in_err-propositions-in-Some c =
    let p = err_from_is_err_and c.from_residual.result c.from_residual.ensures.1 in
    let taken = rw c.in-Some.is at c.takes_key.ensures in
    rw (p.1, p.2) (that_refused c.args.room _ _ _ _ _ taken c.in_err-propositions-in-Some.ensures)

pub returns-in_ok-propositions-in-Some : goal.returns-in_ok-propositions-in-Some
returns-in_ok-propositions-in-Some c =
    let taken = rw c.in-Some.is at c.takes_key.ensures in
    that_found c.args.room _ _ _ _ _ taken c.in_ok-propositions-in-Some.ensures

pub returns-in_err-proposition-in-None : goal.returns-in_err-proposition-in-None
returns-in_err-proposition-in-None c =
    let p = err_from_is_err_and c.from_residual-in_err-proposition-in-None.result c.from_residual-in_err-proposition-in-None.ensures.1 in
    let none = rw c.in-None.is at c.takes_key.ensures in
    rw (p.1, p.2) (one_refused c.args.room _ _ _ _ none c.in_err-proposition-in-None.ensures)

pub returns-in_ok-proposition-in-None : goal.returns-in_ok-proposition-in-None
returns-in_ok-proposition-in-None c =
    let none = rw c.in-None.is at c.takes_key.ensures in
    one_found c.args.room _ _ _ _ none c.in_ok-proposition-in-None.ensures
