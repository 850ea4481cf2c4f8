use Rattle.std.proofs.lemmas.Result.{err_from_is_err_and}
use Rattle.mz_patom.specs.Forms.{private_form, make_private}
use Rattle.mz_patom.proofs.Tails.{boxed_unit, name_refuses, open_refuses, terms_refuse, close_refuses, private_found}
use Rattle.mz_patom.proofs.atoms.private.Goals as goal

pub returns-in_err-name : goal.returns-in_err-name
returns-in_err-name c =
    let p = err_from_is_err_and c.from_residual.result c.from_residual.ensures.1 in
    rw (p.1, p.2) (name_refuses c.args.field c.args.room _ _ _ c.in_err-name.ensures)

pub returns-in_err-open : goal.returns-in_err-open
returns-in_err-open c =
    let p = err_from_is_err_and c.from_residual-in_err-open.result c.from_residual-in_err-open.ensures.1 in
    rw (p.1, p.2) (open_refuses c.args.field c.args.room _ _ _ c.in_ok-name.ensures _ _ c.in_err-open.ensures.reads)

pub returns-in_err-terms : goal.returns-in_err-terms
returns-in_err-terms c =
    let p = err_from_is_err_and c.from_residual-in_err-terms.result c.from_residual-in_err-terms.ensures.1 in
    rw (p.1, p.2) (terms_refuse c.args.field c.args.room _ _ _ c.in_ok-name.ensures c.in_ok-open.ensures.room _ _ c.in_ok-open.ensures.reads _ _ c.in_err-terms.ensures)

pub returns-in_err-close : goal.returns-in_err-close
returns-in_err-close c =
    let p = err_from_is_err_and c.from_residual-in_err-close.result c.from_residual-in_err-close.ensures.1 in
    rw (p.1, p.2) (close_refuses c.args.field c.args.room _ _ _ c.in_ok-name.ensures c.in_ok-open.ensures.room _ _ c.in_ok-open.ensures.reads _ _ c.in_ok-terms.ensures _ _ c.in_err-close.ensures)

pub returns : goal.returns
returns c =
    boxed_unit (private_form c.args.field) c.args.room make_private _ _ _ _ _
    (private_found c.args.field c.args.room _ _ _ c.in_ok-name.ensures c.in_ok-open.ensures.room _ _ c.in_ok-open.ensures.reads _ _ c.in_ok-terms.ensures _ _ c.in_ok-close.ensures)
    c.with_arguments.ensures c.boxed.ensures
