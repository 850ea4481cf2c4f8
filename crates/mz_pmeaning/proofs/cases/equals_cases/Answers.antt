use Rattle.std.proofs.lemmas.Result.{err_from_is_err_and}
use Rattle.mz_pmeaning.specs.CaseForms.{term_body}
use Rattle.mz_pmeaning.proofs.Bodies.{term_is_body}
use Rattle.mz_pmeaning.proofs.CaseSteps.{body_unread, cases_found, list_stopped, otherwise_stopped, plain_found}
use Rattle.mz_pmeaning.proofs.cases.equals_cases.Goals as goal

pub returns-in_err-body : goal.returns-in_err-body
returns-in_err-body c =
    let p = err_from_is_err_and c.from_residual.result c.from_residual.ensures.1 in
    rw (p.1, p.2) (body_unread term_body term_is_body c.args.room _ _ _ c.in_err-body.ensures)

pub returns-in_default : goal.returns-in_default
returns-in_default c =
    let none = rw c.in_default.is at c.takes_word.ensures in
    plain_found term_body term_is_body c.args.room _ _ _ c.in_ok-body.ensures _ none

pub returns-in_err-cases : goal.returns-in_err-cases
returns-in_err-cases c =
    let p = err_from_is_err_and c.from_residual-in_err-cases.result c.from_residual-in_err-cases.ensures.1 in
    let taken = rw c.in-Some.is at c.takes_word.ensures in
    rw (p.1, p.2) (list_stopped term_body term_is_body c.args.room _ _ _ c.in_ok-body.ensures _ _ taken _ _ c.in_err-cases.ensures)

pub returns-in_err-otherwise : goal.returns-in_err-otherwise
returns-in_err-otherwise c =
    let p = err_from_is_err_and c.from_residual-in_err-otherwise.result c.from_residual-in_err-otherwise.ensures.1 in
    let taken = rw c.in-Some.is at c.takes_word.ensures in
    rw (p.1, p.2) (otherwise_stopped term_body term_is_body c.args.room _ _ _ c.in_ok-body.ensures _ _ taken _ _ _ _ c.in_ok-cases.ensures c.in_err-otherwise.ensures)

pub returns : goal.returns
returns c =
    let taken = rw c.in-Some.is at c.takes_word.ensures in
    cases_found term_body term_is_body c.args.room _ _ _ c.in_ok-body.ensures _ _ taken _ _ _ _ c.in_ok-cases.ensures c.in_ok-otherwise.ensures
