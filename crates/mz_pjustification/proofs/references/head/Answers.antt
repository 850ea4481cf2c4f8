use Rattle.std.proofs.Common.{rules, ◌≡◌, true, false}
use Rattle.std.proofs.lemmas.Result.{err_from_is_err_and}
use Rattle.mz_base.specs.Name.{is_name}
use Rattle.mz_pjustification.proofs.ReferenceSteps.{head_no_name, head_no_colon, head_refused, head_number_refused, head_numbered}
use Rattle.mz_pjustification.proofs.references.head.Goals as goal

pub returns-in_err-name : goal.returns-in_err-name
returns-in_err-name c = λ room.
    let p = err_from_is_err_and c.from_residual.result c.from_residual.ensures.1 in
    rw (p.1, p.2) (head_refused room _ _ _ c.in_err-name.ensures)

pub returns-then-not-is_name : goal.returns-then-not-is_name
returns-then-not-is_name c = λ room.
    let off : is_name c.in_ok-name.name.spelling ≡ false = search rules in
    head_no_name room _ _ _ c.in_ok-name.ensures off

pub returns-in_default : goal.returns-in_default
returns-in_default c = λ room.
    let none = rw c.in_default.is at c.takes_key.ensures in
    head_no_colon room _ _ _ _ c.in_ok-name.ensures none

pub returns-in_err-first : goal.returns-in_err-first
returns-in_err-first c = λ room.
    let p = err_from_is_err_and c.from_residual-in_err-first.result c.from_residual-in_err-first.ensures.1 in
    let on : is_name c.in_ok-name.name.spelling ≡ true = search rules in
    let taken = rw c.in-Some.is at c.takes_key.ensures in
    rw (p.1, p.2) (head_number_refused room _ _ _ _ _ _ _ c.in_ok-name.ensures on taken (c.in_err-first.ensures room))

pub returns : goal.returns
returns c = λ room.
    let on : is_name c.in_ok-name.name.spelling ≡ true = search rules in
    let taken = rw c.in-Some.is at c.takes_key.ensures in
    head_numbered room _ _ _ _ _ _ _ c.in_ok-name.ensures on taken (c.in_ok-first.ensures room)
