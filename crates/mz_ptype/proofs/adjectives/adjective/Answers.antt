use Rattle.std.proofs.Common.{◌≡◌}
use Rattle.std.proofs.lemmas.Result.{err_from_is_err_and}
use Rattle.mz_ptype.proofs.AdjectiveSteps.{non_read, argument_refused, attribute_refused, attribute_found}
use Rattle.mz_ptype.proofs.adjectives.adjective.Goals as goal

pub returns-in_err-argument : goal.returns-in_err-argument
returns-in_err-argument c =
    let p = err_from_is_err_and c.from_residual.result c.from_residual.ensures.1 in
    rw (p.1, p.2) (argument_refused c.args.field c.args.room _ _ _ c.takes-non.result _ (non_read c.args.room _ _ c.takes-non.result c.takes-non.ensures) c.in_err-argument.ensures)

pub returns-in_err-attribute : goal.returns-in_err-attribute
returns-in_err-attribute c =
    let p = err_from_is_err_and c.from_residual-in_err-attribute.result c.from_residual-in_err-attribute.ensures.1 in
    rw (p.1, p.2) (attribute_refused c.args.field c.args.room _ _ _ _ c.takes-non.result _ _ (non_read c.args.room _ _ c.takes-non.result c.takes-non.ensures) c.in_ok-argument.ensures c.in_err-attribute.ensures)

pub returns : goal.returns
returns c = attribute_found c.args.field c.args.room _ _ _ _ c.takes-non.result _ _ _ (non_read c.args.room _ _ c.takes-non.result c.takes-non.ensures) c.in_ok-argument.ensures c.in_ok-attribute.ensures c.with_argument.ensures
