use Rattle.std.proofs.Common.{rules, ◌≡◌, true, false}
use Rattle.std.proofs.lemmas.Result.{err_from_is_err_and}
use Rattle.mz_ppattern.specs.Optional.{next_has}
use Rattle.mz_pcluster.proofs.Joined.{shaped_refused, shaped_found}
use Rattle.mz_pblock.specs.Classes.{begins_property}
use Rattle.mz_pblock.specs.Forms.{condition_form, either_form, property_form}
use Rattle.mz_pblock.proofs.ConditionSteps.{as_either_condition, as_either_property, put_condition, put_property}
use Rattle.mz_pblock.proofs.conditions.either.Goals as goal

pub returns-in_err-property : goal.returns-in_err-property
returns-in_err-property c =
    let p = err_from_is_err_and c.from_residual.result c.from_residual.ensures.1 in
    let on : next_has begins_property c.args.reader.now.rest.now ≡ true = search rules in
    rw (p.1, p.2) (shaped_refused either_form property_form put_property c.args.room _ (as_either_property _ on) _ _ c.in_err-property.ensures)

pub returns-then-property_comes : goal.returns-then-property_comes
returns-then-property_comes c =
    let on : next_has begins_property c.args.reader.now.rest.now ≡ true = search rules in
    shaped_found either_form property_form put_property c.args.room _ (as_either_property _ on) _ _ c.in_ok-property.ensures

pub returns-in_err-condition : goal.returns-in_err-condition
returns-in_err-condition c =
    let p = err_from_is_err_and c.from_residual-in_err-condition.result c.from_residual-in_err-condition.ensures.1 in
    let off : next_has begins_property c.args.reader.now.rest.now ≡ false = search rules in
    rw (p.1, p.2) (shaped_refused either_form condition_form put_condition c.args.room _ (as_either_condition _ off) _ _ c.in_err-condition.ensures)

pub returns : goal.returns
returns c =
    let off : next_has begins_property c.args.reader.now.rest.now ≡ false = search rules in
    shaped_found either_form condition_form put_condition c.args.room _ (as_either_condition _ off) _ _ c.in_ok-condition.ensures
