use Rattle.std.proofs.Common.{refl}
use Rattle.std.proofs.lemmas.Result.{err_from_is_err_and}
use Rattle.mz_forms.proofs.Words.{word_in_any, word_refuses}
use Rattle.mz_base.specs.declared.place.Place.{Place}
use Rattle.mz_pjustification.specs.declared.keyword.Keyword.TheVariants as keywords
use Rattle.mz_pjustification.specs.Words.{key}
use Rattle.mz_pstep.proofs.StepSequences.{split_refused_1, split_refused_2, split_refused_3, split_refused_4, split_found}
use Rattle.mz_pstep.proofs.skeletons.split.Goals as goal

pub returns-in_err-per : goal.returns-in_err-per
returns-in_err-per c =
    let p = err_from_is_err_and c.from_residual.result c.from_residual.ensures.1 in
    rw (p.1, p.2) (split_refused_1 c.args.room _ _ _ (word_refuses Place (key keywords.Per) c.args.room _ _ _ c.in_err-per.ensures))

pub returns-in_err-cases : goal.returns-in_err-cases
returns-in_err-cases c =
    let p = err_from_is_err_and c.from_residual-in_err-cases.result c.from_residual-in_err-cases.ensures.1 in
    rw (p.1, p.2) (split_refused_2 c.args.room _ _ _ (word_in_any Place (key keywords.Per) c.args.room _ _ _ c.in_ok-per.ensures) _ _ (word_refuses Place (key keywords.Cases) c.args.room _ _ _ c.in_err-cases.ensures))

pub returns-in_err-simple : goal.returns-in_err-simple
returns-in_err-simple c =
    let p = err_from_is_err_and c.from_residual-in_err-simple.result c.from_residual-in_err-simple.ensures.1 in
    rw (p.1, p.2) (split_refused_3 c.args.room _ _ _ (word_in_any Place (key keywords.Per) c.args.room _ _ _ c.in_ok-per.ensures) _ _ (word_in_any Place (key keywords.Cases) c.args.room _ _ _ c.in_ok-cases.ensures) _ _ c.in_err-simple.ensures)

pub returns-in_err-semicolon : goal.returns-in_err-semicolon
returns-in_err-semicolon c =
    let p = err_from_is_err_and c.from_residual-in_err-semicolon.result c.from_residual-in_err-semicolon.ensures.1 in
    rw (p.1, p.2) (split_refused_4 c.args.room _ _ _ (word_in_any Place (key keywords.Per) c.args.room _ _ _ c.in_ok-per.ensures) _ _ (word_in_any Place (key keywords.Cases) c.args.room _ _ _ c.in_ok-cases.ensures) _ _ c.in_ok-simple.ensures _ _ (word_refuses Place (key keywords.Semicolon) c.args.room _ _ _ c.in_err-semicolon.ensures))

pub returns : goal.returns
returns c = (_, split_found c.args.room _ _ _ (word_in_any Place (key keywords.Per) c.args.room _ _ _ c.in_ok-per.ensures) _ _ (word_in_any Place (key keywords.Cases) c.args.room _ _ _ c.in_ok-cases.ensures) _ _ c.in_ok-simple.ensures _ _ (word_in_any Place (key keywords.Semicolon) c.args.room _ _ _ c.in_ok-semicolon.ensures), refl)
