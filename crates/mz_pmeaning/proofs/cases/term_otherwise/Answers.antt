use Rattle.std.proofs.lemmas.Result.{err_from_is_err_and}
use Rattle.mz_forms.proofs.Words.{word_in_any, word_refuses}
use Rattle.std.specs.Prelude.{codes}
use Rattle.mz_base.specs.declared.place.Place.{Place}
use Rattle.mz_ppattern.specs.Words.{word_token}
use Rattle.mz_pmeaning.specs.CaseForms.{term_body}
use Rattle.mz_pmeaning.proofs.Bodies.{term_is_body}
use Rattle.mz_pmeaning.proofs.CaseSequences.{otherwise_refused_1, otherwise_refused_2, otherwise_found}
use Rattle.mz_pmeaning.proofs.cases.term_otherwise.Goals as goal

pub returns-in_err-otherwise : goal.returns-in_err-otherwise
returns-in_err-otherwise c =
    let p = err_from_is_err_and c.from_residual.result c.from_residual.ensures.1 in
    rw (p.1, p.2) (otherwise_refused_1 term_body term_is_body c.args.room _ _ _ (word_refuses Place (word_token (codes "otherwise")) c.args.room _ _ _ c.in_err-otherwise.ensures))

pub returns-in_err-body : goal.returns-in_err-body
returns-in_err-body c =
    let p = err_from_is_err_and c.from_residual-in_err-body.result c.from_residual-in_err-body.ensures.1 in
    rw (p.1, p.2) (otherwise_refused_2 term_body term_is_body c.args.room _ _ _ (word_in_any Place (word_token (codes "otherwise")) c.args.room _ _ _ c.in_ok-otherwise.ensures) _ _ c.in_err-body.ensures)

pub returns : goal.returns
returns c = otherwise_found term_body term_is_body c.args.room _ _ _ (word_in_any Place (word_token (codes "otherwise")) c.args.room _ _ _ c.in_ok-otherwise.ensures) _ _ c.in_ok-body.ensures
