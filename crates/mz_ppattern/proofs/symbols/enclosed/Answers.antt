use Rattle.std.proofs.Common.{◌-◌, arith}
use Rattle.std.proofs.lemmas.Result.{err_from_is_err_and}
use Rattle.mz_forms.proofs.Nested.{found_under, refuses_under}
use Rattle.mz_ppattern.specs.Forms.{identifiers_form}
use Rattle.mz_ppattern.proofs.SymbolSteps.{enclosed_refused_1, enclosed_refused_2, enclosed_refused_3, enclosed_found}
use Rattle.mz_ppattern.proofs.symbols.enclosed.Goals as goal

pub returns-in_err-left : goal.returns-in_err-left
returns-in_err-left c =
    let p = err_from_is_err_and c.from_residual.result c.from_residual.ensures.1 in
    rw (p.1, p.2) (enclosed_refused_1 c.args.room _ _ _ c.in_err-left.ensures.reads)

pub returns-in_err-identifiers : goal.returns-in_err-identifiers
returns-in_err-identifiers c =
    let p = err_from_is_err_and c.from_residual-in_err-identifiers.result c.from_residual-in_err-identifiers.ensures.1 in
    rw (p.1, p.2) (enclosed_refused_2 c.args.room _ _ _ c.in_ok-left.ensures.reads _ _ (refuses_under identifiers_form c.args.room (c.args.room - 1) (omega (arith, c.in_ok-left.ensures.room)) _ _ _ (c.in_err-identifiers.ensures (c.args.room - 1))))

pub returns-in_err-right : goal.returns-in_err-right
returns-in_err-right c =
    let p = err_from_is_err_and c.from_residual-in_err-right.result c.from_residual-in_err-right.ensures.1 in
    rw (p.1, p.2) (enclosed_refused_3 c.args.room _ _ _ c.in_ok-left.ensures.reads _ _ (found_under identifiers_form c.args.room (c.args.room - 1) (omega (arith, c.in_ok-left.ensures.room)) _ _ _ (c.in_ok-identifiers.ensures (c.args.room - 1))) _ _ c.in_err-right.ensures)

pub returns : goal.returns
returns c = enclosed_found c.args.room _ _ _ c.in_ok-left.ensures.reads _ _ (found_under identifiers_form c.args.room (c.args.room - 1) (omega (arith, c.in_ok-left.ensures.room)) _ _ _ (c.in_ok-identifiers.ensures (c.args.room - 1))) _ _ c.in_ok-right.ensures
