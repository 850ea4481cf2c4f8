use Rattle.std.proofs.lemmas.Result.{err_from_is_err_and}
use Rattle.mz_ptype.proofs.DeclarationSteps.{name_refused, declared_refused, declared_found}
use Rattle.mz_ptype.proofs.declarations.declared.Goals as goal

pub returns-in_err-name : goal.returns-in_err-name
returns-in_err-name c =
    let p = err_from_is_err_and c.from_residual.result c.from_residual.ensures.1 in
    rw (p.1, p.2) (name_refused c.args.field c.args.room _ _ _ c.in_err-name.ensures)

pub returns-in_err-typed : goal.returns-in_err-typed
returns-in_err-typed c =
    let p = err_from_is_err_and c.from_residual-in_err-typed.result c.from_residual-in_err-typed.ensures.1 in
    rw (p.1, p.2) (declared_refused c.args.field c.args.room _ _ _ _ _ c.in_ok-name.ensures c.in_err-typed.ensures)

pub returns : goal.returns
returns c = declared_found c.args.field c.args.room _ _ _ _ _ _ c.in_ok-name.ensures c.in_ok-typed.ensures c.with_type.ensures
