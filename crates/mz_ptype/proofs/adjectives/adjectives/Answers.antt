use Rattle.std.proofs.lemmas.Result.{err_from_is_err_and}
use Rattle.mz_forms.proofs.Leads.{passes}
use Rattle.mz_ptype.specs.Forms.{adjectives_form, adjective_list_form}
use Rattle.mz_ptype.proofs.AdjectiveSteps.{behind_first, first_refused}
use Rattle.mz_ptype.proofs.adjectives.adjectives.Goals as goal

pub returns-in_err-first : goal.returns-in_err-first
returns-in_err-first c =
    let p = err_from_is_err_and c.from_residual.result c.from_residual.ensures.1 in
    rw (p.1, p.2) (first_refused c.args.field c.args.room _ _ _ c.in_err-first.ensures)

pub returns-in_err-more : goal.returns-in_err-more
returns-in_err-more c =
    let p = err_from_is_err_and c.from_residual-in_err-more.result c.from_residual-in_err-more.ensures.1 in
    rw (p.1, p.2) (passes (adjectives_form c.args.field) (adjective_list_form c.args.field) _ _ _ _ _ _ (behind_first _ _ _ _ _ c.in_ok-first.ensures) c.in_err-more.ensures)

pub returns : goal.returns
returns c = (behind_first c.args.field c.args.room _ _ _ c.in_ok-first.ensures).finds _ _ c.in_ok-more.ensures
