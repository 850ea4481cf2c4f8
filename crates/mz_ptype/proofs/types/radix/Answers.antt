use Rattle.std.proofs.lemmas.Result.{err_from_is_err_and}
use Rattle.mz_ptype.specs.Forms.{adjectives_in}
use Rattle.mz_ptype.proofs.TypeSteps.{radix_unbegun, radix_refused, boxed_radix}
use Rattle.mz_ptype.proofs.types.radix.Goals as goal

pub returns-in_err-structured : goal.returns-in_err-structured
returns-in_err-structured c =
    let p = err_from_is_err_and c.from_residual.result c.from_residual.ensures.1 in
    rw (p.1, p.2) (radix_unbegun c.args.field c.args.room _ _ _ c.in_err-structured.ensures)

pub returns-in_err-arguments : goal.returns-in_err-arguments
returns-in_err-arguments c =
    let p = err_from_is_err_and c.from_residual-in_err-arguments.result c.from_residual-in_err-arguments.ensures.1 in
    rw (p.1, p.2) (radix_refused c.args.field c.args.room _ _ _ _ _ c.in_ok-structured.ensures c.in_err-arguments.ensures)

pub returns : goal.returns
returns c = boxed_radix c.args.field c.args.room (adjectives_in c.args.adjectives) _ _ _ _ _ _ _ c.in_ok-structured.ensures c.in_ok-arguments.ensures c.with_adjectives.ensures c.boxed.ensures
