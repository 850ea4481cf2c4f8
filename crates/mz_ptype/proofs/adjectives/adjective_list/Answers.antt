use Rattle.std.proofs.Common.{rules, ◌≡◌, true, false}
use Rattle.std.proofs.lemmas.Result.{err_from_is_err_and}
use Rattle.mz_ptype.specs.Classes.{begins_adjective, next_is}
use Rattle.mz_ptype.proofs.AdjectiveSteps.{listed_none, listed_step, listed_refused, listed_end, shorter_adjective}
use Rattle.mz_ptype.proofs.adjectives.adjective_list.Goals as goal

pub list-init : goal.list-init
list-init c = listed_none _ _ _ _ c.new-list.ensures.items

pub list-preserved : goal.list-preserved
list-preserved c =
    let next : next_is begins_adjective c.list.reader.rest.now ≡ true = search rules in
    listed_step _ _ _ _ _ _ _ _ c.list.invariant c.in_ok-push.ensures.items next c.in_ok-next.ensures

pub list-smaller : goal.list-smaller
list-smaller c = shorter_adjective _ _ _ _ _ c.in_ok-next.ensures

pub returns-in_err-next : goal.returns-in_err-next
returns-in_err-next c =
    let p = err_from_is_err_and c.from_residual.result c.from_residual.ensures.1 in
    let next : next_is begins_adjective c.list.reader.rest.now ≡ true = search rules in
    rw (p.1, p.2) (listed_refused _ _ _ _ _ _ _ c.list.invariant next c.in_err-next.ensures)

pub returns : goal.returns
returns c =
    let next : next_is begins_adjective c.list.reader.rest.now ≡ false = search rules in
    listed_end _ _ _ _ _ c.list.invariant next
