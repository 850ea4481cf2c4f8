use Rattle.std.proofs.lemmas.Result.{err_from_is_err_and}
use Rattle.mz_forms.proofs.Words.{word_in_any, word_refuses}
use Rattle.std.specs.Prelude.{codes}
use Rattle.mz_base.specs.declared.place.Place.{Place}
use Rattle.mz_ppattern.specs.Words.{word_token}
use Rattle.mz_pmeaning.specs.CaseForms.{term_body}
use Rattle.mz_pmeaning.proofs.Bodies.{term_is_body}
use Rattle.mz_pmeaning.proofs.CaseSequences.{case_refused_1, case_refused_2, case_refused_3, case_found}
use Rattle.mz_pmeaning.proofs.cases.term_case.Goals as goal

pub returns-in_err-body : goal.returns-in_err-body
returns-in_err-body c =
    let p = err_from_is_err_and c.from_residual.result c.from_residual.ensures.1 in
    rw (p.1, p.2) (case_refused_1 term_body term_is_body c.args.room _ _ _ c.in_err-body.ensures)

pub returns-in_err-if_ : goal.returns-in_err-if_
returns-in_err-if_ c =
    let p = err_from_is_err_and c.from_residual-in_err-if_.result c.from_residual-in_err-if_.ensures.1 in
    rw (p.1, p.2) (case_refused_2 term_body term_is_body c.args.room _ _ _ c.in_ok-body.ensures _ _ (word_refuses Place (word_token (codes "if")) c.args.room _ _ _ c.in_err-if_.ensures))

pub returns-in_err-condition : goal.returns-in_err-condition
returns-in_err-condition c =
    let p = err_from_is_err_and c.from_residual-in_err-condition.result c.from_residual-in_err-condition.ensures.1 in
    rw (p.1, p.2) (case_refused_3 term_body term_is_body c.args.room _ _ _ c.in_ok-body.ensures _ _ (word_in_any Place (word_token (codes "if")) c.args.room _ _ _ c.in_ok-if_.ensures) _ _ c.in_err-condition.ensures)

pub returns : goal.returns
returns c = (case_found term_body term_is_body c.args.room _ _ _ c.in_ok-body.ensures _ _ (word_in_any Place (word_token (codes "if")) c.args.room _ _ _ c.in_ok-if_.ensures) _ _ c.in_ok-condition.ensures.0, c.in_ok-condition.ensures.1)
