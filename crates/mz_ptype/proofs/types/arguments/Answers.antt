use Rattle.std.proofs.lemmas.Result.{err_from_is_err_and}
use Rattle.mz_ptype.proofs.TypeSteps.{arguments_refused, arguments_found}
use Rattle.mz_ptype.proofs.types.arguments.Goals as goal

pub returns-in_err-terms : goal.returns-in_err-terms
returns-in_err-terms c =
    let p = err_from_is_err_and c.from_residual.result c.from_residual.ensures.1 in
    let taken = rw (c.in-Some.is, c.preposition.ensures) at c.takes.ensures in
    rw (p.1, p.2) (arguments_refused c.args.field c.args.structured c.args.room _ _ _ _ _ taken c.in_err-terms.ensures)

pub returns : goal.returns
returns c =
    let taken = rw (c.in-Some.is, c.preposition.ensures) at c.takes.ensures in
    arguments_found c.args.field c.args.structured c.args.room _ _ _ _ _ taken c.in_ok-terms.ensures
