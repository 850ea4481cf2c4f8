use Rattle.std.proofs.lemmas.Result.{err_from_is_err_and}
use Rattle.mz_forms.proofs.Leads.{passes}
use Rattle.mz_patom.specs.Forms.{maybe_terms_form, predicate_form, make_predicate}
use Rattle.mz_patom.proofs.Tails.{boxed_unit, symbol_refuses, behind_symbol}
use Rattle.mz_patom.proofs.atoms.predicate.Goals as goal

pub returns-in_err-symbol : goal.returns-in_err-symbol
returns-in_err-symbol c =
    let p = err_from_is_err_and c.from_residual.result c.from_residual.ensures.1 in
    rw (p.1, p.2) (symbol_refuses c.args.field c.args.room _ _ _ c.in_err-symbol.ensures)

pub returns-in_err-right : goal.returns-in_err-right
returns-in_err-right c =
    let p = err_from_is_err_and c.from_residual-in_err-right.result c.from_residual-in_err-right.ensures.1 in
    rw (p.1, p.2) (passes (predicate_form c.args.field) (maybe_terms_form c.args.field) _ _ _ _ _ _ (behind_symbol c.args.field c.args.room _ _ _ c.in_ok-symbol.ensures) c.in_err-right.ensures)

pub returns : goal.returns
returns c = boxed_unit (predicate_form c.args.field) c.args.room make_predicate _ _ _ _ _ ((behind_symbol c.args.field c.args.room _ _ _ c.in_ok-symbol.ensures).finds _ _ c.in_ok-right.ensures) c.with_terms.ensures c.boxed.ensures
