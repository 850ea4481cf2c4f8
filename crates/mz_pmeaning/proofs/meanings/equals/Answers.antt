use Rattle.std.proofs.lemmas.Result.{err_from_is_err_and}
use Rattle.mz_forms.proofs.Words.{word_in_any, word_refuses}
use Rattle.std.specs.Prelude.{codes}
use Rattle.mz_base.specs.declared.place.Place.{Place}
use Rattle.mz_ppattern.specs.Words.{word_token}
use Rattle.mz_pmeaning.proofs.MeaningSequences.{stated_equals_refused_1, stated_equals_refused_2, stated_equals_refused_3, stated_equals_found}
use Rattle.mz_pmeaning.proofs.meanings.equals.Goals as goal

pub returns-in_err-equals : goal.returns-in_err-equals
returns-in_err-equals c =
    let p = err_from_is_err_and c.from_residual.result c.from_residual.ensures.1 in
    rw (p.1, p.2) (stated_equals_refused_1 c.args.room _ _ _ (word_refuses Place (word_token (codes "equals")) c.args.room _ _ _ c.in_err-equals.ensures))

pub returns-in_err-label : goal.returns-in_err-label
returns-in_err-label c =
    let p = err_from_is_err_and c.from_residual-in_err-label.result c.from_residual-in_err-label.ensures.1 in
    rw (p.1, p.2) (stated_equals_refused_2 c.args.room _ _ _ (word_in_any Place (word_token (codes "equals")) c.args.room _ _ _ c.in_ok-equals.ensures) _ _ (c.in_err-label.ensures c.args.room))

pub returns-in_err-cases : goal.returns-in_err-cases
returns-in_err-cases c =
    let p = err_from_is_err_and c.from_residual-in_err-cases.result c.from_residual-in_err-cases.ensures.1 in
    rw (p.1, p.2) (stated_equals_refused_3 c.args.room _ _ _ (word_in_any Place (word_token (codes "equals")) c.args.room _ _ _ c.in_ok-equals.ensures) _ _ (c.in_ok-label.ensures c.args.room) _ _ c.in_err-cases.ensures)

pub returns : goal.returns
returns c = stated_equals_found c.args.room _ _ _ (word_in_any Place (word_token (codes "equals")) c.args.room _ _ _ c.in_ok-equals.ensures) _ _ (c.in_ok-label.ensures c.args.room) _ _ c.in_ok-cases.ensures
