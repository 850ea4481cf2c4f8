use Rattle.std.proofs.Common.{rules, ◌≡◌, true, false, refl}
use Rattle.std.proofs.lemmas.Result.{err_from_is_err_and}
use Rattle.mz_ppattern.specs.Optional.{next_has}
use Rattle.mz_pblock.specs.Classes.{begins_either}
use Rattle.mz_pblock.proofs.ConditionSteps.{owed_found, owed_none, owed_refused, owed_step, owed_unpaid, shorter_either}
use Rattle.mz_pblock.proofs.conditions.owed.Goals as goal

pub list-init : goal.list-init
list-init c = owed_none c.args.room _ _ _ _ c.new-items.ensures.items refl

pub list-preserved : goal.list-preserved
list-preserved c =
    let on : next_has begins_either c.list.reader.rest.now ≡ true = search rules in
    owed_step c.args.room _ _ on _ _ _ c.list.invariant _ _ _ _ c.in_ok-next.ensures c.in_ok-push.ensures.items (search rules)

pub list-smaller : goal.list-smaller
list-smaller c = shorter_either c.args.room _ _ _ c.in_ok-next.ensures

pub returns-in_err-next : goal.returns-in_err-next
returns-in_err-next c =
    let p = err_from_is_err_and c.from_residual.result c.from_residual.ensures.1 in
    let on : next_has begins_either c.list.reader.rest.now ≡ true = search rules in
    rw (p.1, p.2) (owed_refused c.args.room _ _ on _ _ _ c.list.invariant _ _ c.in_err-next.ensures)

pub returns-then-still_due : goal.returns-then-still_due
returns-then-still_due c =
    let off : next_has begins_either c.list.reader.rest.now ≡ false = search rules in
    owed_unpaid c.args.room _ _ _ _ _ c.list.invariant off (search rules)

pub returns : goal.returns
returns c =
    let off : next_has begins_either c.list.reader.rest.now ≡ false = search rules in
    owed_found c.args.room _ _ _ _ _ c.list.invariant off (search rules)
