use Rattle.std.proofs.Common.{rules, ◌≡◌, true, false}
use Rattle.std.proofs.lemmas.Result.{err_from_is_err_and}
use Rattle.mz_base.specs.Name.{is_name}
use Rattle.mz_pjustification.proofs.ReferenceSteps.{scheme_no_name, scheme_no_colon, scheme_refused, sch_refused, scheme_number_refused, scheme_numbered}
use Rattle.mz_pjustification.proofs.references.scheme.Goals as goal

pub returns-in_err-article : goal.returns-in_err-article
returns-in_err-article c = λ room.
    let p = err_from_is_err_and c.from_residual.result c.from_residual.ensures.1 in
    rw (p.1, p.2) (scheme_refused room _ _ _ c.in_err-article.ensures)

pub returns-then-not-is_name : goal.returns-then-not-is_name
returns-then-not-is_name c = λ room.
    let off : is_name c.in_ok-article.article.spelling ≡ false = search rules in
    scheme_no_name room _ _ _ c.in_ok-article.ensures off

pub returns-in_default : goal.returns-in_default
returns-in_default c = λ room.
    let none = rw c.in_default.is at c.takes_key.ensures in
    scheme_no_colon room _ _ _ _ c.in_ok-article.ensures none

pub returns-in_err-sch : goal.returns-in_err-sch
returns-in_err-sch c = λ room.
    let p = err_from_is_err_and c.from_residual-in_err-sch.result c.from_residual-in_err-sch.ensures.1 in
    let on : is_name c.in_ok-article.article.spelling ≡ true = search rules in
    let taken = rw c.in-Some.is at c.takes_key.ensures in
    rw (p.1, p.2) (sch_refused room _ _ _ c.in_ok-article.ensures _ _ on taken _ _ c.in_err-sch.ensures)

pub returns-in_err-number : goal.returns-in_err-number
returns-in_err-number c = λ room.
    let p = err_from_is_err_and c.from_residual-in_err-number.result c.from_residual-in_err-number.ensures.1 in
    let on : is_name c.in_ok-article.article.spelling ≡ true = search rules in
    let taken = rw c.in-Some.is at c.takes_key.ensures in
    rw (p.1, p.2) (scheme_number_refused room _ _ _ c.in_ok-article.ensures _ _ on taken _ _ c.in_ok-sch.ensures _ _ c.in_err-number.ensures)

pub returns : goal.returns
returns c = λ room.
    let on : is_name c.in_ok-article.article.spelling ≡ true = search rules in
    let taken = rw c.in-Some.is at c.takes_key.ensures in
    scheme_numbered room _ _ _ c.in_ok-article.ensures _ _ on taken _ _ c.in_ok-sch.ensures _ _ c.in_ok-number.ensures
