use Rattle.std.proofs.lemmas.Result.{err_from_is_err_and}
use Rattle.mz_pjustification.proofs.ReferenceSteps.{definition_refused, definition_found, theorem_refused, theorem_found}
use Rattle.mz_pjustification.proofs.references.number.Goals as goal

pub returns-in_err-number-in-Some : goal.returns-in_err-number-in-Some
returns-in_err-number-in-Some c = λ room.
    let p = err_from_is_err_and c.from_residual.result c.from_residual.ensures.1 in
    let taken = rw c.in-Some.is at c.takes_key.ensures in
    rw (p.1, p.2) (definition_refused room _ _ _ _ _ taken c.in_err-number-in-Some.ensures)

pub returns-in_ok-number-in-Some : goal.returns-in_ok-number-in-Some
returns-in_ok-number-in-Some c = λ room.
    let taken = rw c.in-Some.is at c.takes_key.ensures in
    definition_found room _ _ _ _ _ taken c.in_ok-number-in-Some.ensures

pub returns-in_err-number-in-None : goal.returns-in_err-number-in-None
returns-in_err-number-in-None c = λ room.
    let p = err_from_is_err_and c.from_residual-in_err-number-in-None.result c.from_residual-in_err-number-in-None.ensures.1 in
    let none = rw c.in-None.is at c.takes_key.ensures in
    rw (p.1, p.2) (theorem_refused room _ _ _ _ none c.in_err-number-in-None.ensures)

pub returns-in_ok-number-in-None : goal.returns-in_ok-number-in-None
returns-in_ok-number-in-None c = λ room.
    let none = rw c.in-None.is at c.takes_key.ensures in
    theorem_found room _ _ _ _ none c.in_ok-number-in-None.ensures
