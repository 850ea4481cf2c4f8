use Rattle.std.proofs.lemmas.Result.{err_from_is_err_and}
use Rattle.mz_pstep.proofs.Closings.{closed_found, types_refused, close_refused, types_found}
use Rattle.mz_ppart.proofs.reserves.closing.Goals as goal

pub returns-in-Some : goal.returns-in-Some
returns-in-Some c =
    let taken = rw c.in-Some.is at c.takes.ensures in
    closed_found c.args.closing c.requires.closing c.args.room _ _ _ taken

pub returns-in_err-list : goal.returns-in_err-list
returns-in_err-list c =
    let p = err_from_is_err_and c.from_residual.result c.from_residual.ensures.1 in
    let none = rw c.in_default.is at c.takes.ensures in
    rw (p.1, p.2) (types_refused c.args.closing c.requires.closing c.args.room c.requires.room _ _ none _ _ c.in_err-list.ensures)

pub returns-in_err-place : goal.returns-in_err-place
returns-in_err-place c =
    let p = err_from_is_err_and c.from_residual-in_err-place.result c.from_residual-in_err-place.ensures.1 in
    let none = rw c.in_default.is at c.takes.ensures in
    rw (p.1, p.2) (close_refused c.args.closing c.requires.closing c.args.room c.requires.room _ _ none _ _ c.in_ok-list.ensures _ _ c.in_err-place.ensures)

pub returns : goal.returns
returns c =
    let none = rw c.in_default.is at c.takes.ensures in
    types_found c.args.closing c.requires.closing c.args.room c.requires.room _ _ none _ _ c.in_ok-list.ensures _ _ c.in_ok-place.ensures
