use Rattle.std.proofs.lemmas.Result.{err_from_is_err_and}
use Rattle.mz_pstep.proofs.Named.{retyped_refused, itself_found, retyped_term_refused, retyped_found}
use Rattle.mz_pstep.proofs.equalities.retyped.Goals as goal

pub returns-in_err-name : goal.returns-in_err-name
returns-in_err-name c =
    let p = err_from_is_err_and c.from_residual.result c.from_residual.ensures.1 in
    rw (p.1, p.2) (retyped_refused c.args.room _ _ _ c.in_err-name.ensures)

pub returns-in_default : goal.returns-in_default
returns-in_default c =
    let none = rw c.in_default.is at c.takes_equals.ensures in
    itself_found c.args.room _ _ _ c.in_ok-name.ensures _ none

pub returns-in_err-node : goal.returns-in_err-node
returns-in_err-node c =
    let p = err_from_is_err_and c.from_residual-in_err-node.result c.from_residual-in_err-node.ensures.1 in
    let taken = rw c.in-Some.is at c.takes_equals.ensures in
    rw (p.1, p.2) (retyped_term_refused c.args.room _ _ _ c.in_ok-name.ensures _ _ taken _ _ c.in_err-node.ensures)

pub returns : goal.returns
returns c =
    let taken = rw c.in-Some.is at c.takes_equals.ensures in
    rw c.from_node-term.ensures (retyped_found c.args.room _ _ _ c.in_ok-name.ensures _ _ taken _ _ c.in_ok-node.ensures)
