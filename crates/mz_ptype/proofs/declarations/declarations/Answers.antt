use Rattle.std.proofs.lemmas.Result.{err_from_is_err_and}
use Rattle.mz_ptype.proofs.DeclarationSteps.{first_refused, declarations_from}
use Rattle.mz_ptype.proofs.declarations.declarations.Goals as goal

pub returns-in_err-first : goal.returns-in_err-first
returns-in_err-first c =
    let p = err_from_is_err_and c.from_residual.result c.from_residual.ensures.1 in
    rw (p.1, p.2) (first_refused c.args.field c.args.room _ _ _ c.in_err-first.ensures)

pub returns : goal.returns
returns c = declarations_from c.args.field c.args.room _ _ _ _ _ c.in_ok-first.ensures c.rest_of_declarations.ensures
