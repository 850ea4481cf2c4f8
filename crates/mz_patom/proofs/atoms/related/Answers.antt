use Rattle.std.proofs.lemmas.Result.{err_from_is_err_and}
use Rattle.mz_tree.specs.Views.{terms_of}
use Rattle.mz_patom.specs.Forms.{maybe_terms_form, related}
use Rattle.mz_patom.proofs.Tails.{boxed_unit}
use Rattle.mz_patom.proofs.atoms.related.Goals as goal

pub returns-in_err-right : goal.returns-in_err-right
returns-in_err-right c =
    let p = err_from_is_err_and c.from_residual.result c.from_residual.ensures.1 in
    rw (p.1, p.2) c.in_err-right.ensures

pub returns : goal.returns
returns c = boxed_unit (maybe_terms_form c.args.field) c.args.room (related (terms_of c.args.left) c.args.symbol) _ _ _ _ _ c.in_ok-right.ensures c.with_right.ensures c.boxed.ensures
