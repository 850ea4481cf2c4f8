use Rattle.std.proofs.lemmas.Result.{err_from_is_err_and}
use Rattle.mz_pmeaning.proofs.Conditions.{condition_found, condition_refused, no_comma}
use Rattle.mz_pmeaning.proofs.cases.condition.Goals as goal

pub returns-in_err-node : goal.returns-in_err-node
returns-in_err-node c =
    let p = err_from_is_err_and c.from_residual.result c.from_residual.ensures.1 in
    rw (p.1, p.2) (condition_refused c.args.room _ _ _ c.in_err-node.ensures)

pub returns : goal.returns
returns c = rw c.from_node.ensures (condition_found c.args.room _ _ _ c.in_ok-node.ensures.0, no_comma c.args.room _ _ _ c.in_ok-node.ensures.0)
