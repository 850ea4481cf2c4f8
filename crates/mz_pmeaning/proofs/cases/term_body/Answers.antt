use Rattle.std.proofs.lemmas.Result.{err_from_is_err_and}
use Rattle.mz_pmeaning.proofs.cases.term_body.Goals as goal

pub returns-in_err-node : goal.returns-in_err-node
returns-in_err-node c =
    let p = err_from_is_err_and c.from_residual.result c.from_residual.ensures.1 in
    rw (p.1, p.2) c.in_err-node.ensures

pub returns : goal.returns
returns c = rw c.from_node.ensures c.in_ok-node.ensures
