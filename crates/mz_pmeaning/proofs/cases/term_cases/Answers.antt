use Rattle.std.proofs.Common.{refl}
use Rattle.std.proofs.lemmas.Result.{err_from_is_err_and}
use Rattle.mz_forms.proofs.Leads.{first_refuses}
use Rattle.std.proofs.Common.{[]}
use Rattle.mz_pmeaning.specs.CaseForms.{term_body, condition_form, further_cases}
use Rattle.mz_pmeaning.proofs.Bodies.{term_is_body}
use Rattle.mz_pmeaning.proofs.CaseSteps.{cases_begun, cases_listed, cases_step, cases_stopped, condition_apart, shorter_cases}
use Rattle.mz_pmeaning.proofs.cases.term_cases.Goals as goal

pub returns-in_err-condition : goal.returns-in_err-condition
returns-in_err-condition c =
    let p = err_from_is_err_and c.from_residual.result c.from_residual.ensures.1 in
    rw (p.1, p.2) (first_refuses condition_form (further_cases term_body) (condition_apart term_body term_is_body) c.args.room _ _ _ (λ a is. ([], tt)) c.in_err-condition.ensures)

pub more-init : goal.more-init
more-init c = cases_begun term_body term_is_body c.args.room _ _ _ _ _ _ refl refl c.in_ok-condition.ensures.0 c.in_ok-condition.ensures.1 c.new-items.ensures.items

pub more-preserved : goal.more-preserved
more-preserved c =
    let taken = rw c.in-Some.is at c.takes_comma.ensures in
    cases_step term_body term_is_body c.args.room _ _ _ _ _ _ _ _ _ _ _ c.more.invariant taken.0 c.in_ok-tree.ensures.0 c.in_ok-tree.ensures.1 c.in_ok-push.ensures.items

pub more-smaller : goal.more-smaller
more-smaller c =
    let taken = rw c.in-Some.is at c.takes_comma.ensures in
    shorter_cases term_body term_is_body _ c.args.room _ _ _ _ taken.0 c.in_ok-tree.ensures.0

pub returns-in_err-tree : goal.returns-in_err-tree
returns-in_err-tree c =
    let p = err_from_is_err_and c.from_residual-in_err-tree.result c.from_residual-in_err-tree.ensures.1 in
    let taken = rw c.in-Some.is at c.takes_comma.ensures in
    rw (p.1, p.2) (cases_stopped term_body term_is_body c.args.room _ _ _ _ _ _ _ _ _ _ c.more.invariant taken.0 c.in_err-tree.ensures)

pub returns : goal.returns
returns c =
    let none = rw c.in_default.is at c.takes_comma.ensures in
    cases_listed term_body term_is_body c.args.room _ _ _ _ _ _ _ c.more.invariant none
