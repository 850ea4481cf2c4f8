use Rattle.std.proofs.lemmas.Result.{err_from_is_err_and}
use Rattle.mz_ptype.proofs.TypeSteps.{list_refused, type_from_list}
use Rattle.mz_ptype.proofs.types.whole_type.Goals as goal

pub returns-in_err-adjectives : goal.returns-in_err-adjectives
returns-in_err-adjectives c =
    let p = err_from_is_err_and c.from_residual.result c.from_residual.ensures.1 in
    rw (p.1, p.2) (list_refused c.args.field c.args.room _ _ _ c.in_err-adjectives.ensures)

pub returns : goal.returns
returns c = type_from_list c.args.field c.args.room _ _ _ _ _ c.in_ok-adjectives.ensures c.radix.ensures
