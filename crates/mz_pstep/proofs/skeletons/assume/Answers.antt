use Rattle.std.proofs.lemmas.Result.{err_from_is_err_and}
use Rattle.mz_forms.proofs.Words.{word_in_any, word_refuses}
use Rattle.mz_base.specs.declared.place.Place.{Place}
use Rattle.mz_pjustification.specs.declared.keyword.Keyword.TheVariants as keywords
use Rattle.mz_pjustification.specs.Words.{key}
use Rattle.mz_pstep.proofs.StepSequences.{assume_refused_1, assume_refused_2, assume_refused_3, assume_found}
use Rattle.mz_pstep.proofs.skeletons.assume.Goals as goal

pub returns-in_err-assume : goal.returns-in_err-assume
returns-in_err-assume c =
    let p = err_from_is_err_and c.from_residual.result c.from_residual.ensures.1 in
    rw (p.1, p.2) (assume_refused_1 c.args.room _ _ _ (word_refuses Place (key keywords.Assume) c.args.room _ _ _ c.in_err-assume.ensures))

pub returns-in_err-hypotheses : goal.returns-in_err-hypotheses
returns-in_err-hypotheses c =
    let p = err_from_is_err_and c.from_residual-in_err-hypotheses.result c.from_residual-in_err-hypotheses.ensures.1 in
    rw (p.1, p.2) (assume_refused_2 c.args.room _ _ _ (word_in_any Place (key keywords.Assume) c.args.room _ _ _ c.in_ok-assume.ensures) _ _ c.in_err-hypotheses.ensures)

pub returns-in_err-semicolon : goal.returns-in_err-semicolon
returns-in_err-semicolon c =
    let p = err_from_is_err_and c.from_residual-in_err-semicolon.result c.from_residual-in_err-semicolon.ensures.1 in
    rw (p.1, p.2) (assume_refused_3 c.args.room _ _ _ (word_in_any Place (key keywords.Assume) c.args.room _ _ _ c.in_ok-assume.ensures) _ _ c.in_ok-hypotheses.ensures _ _ (word_refuses Place (key keywords.Semicolon) c.args.room _ _ _ c.in_err-semicolon.ensures))

pub returns : goal.returns
returns c = (assume_found c.args.room _ _ _ (word_in_any Place (key keywords.Assume) c.args.room _ _ _ c.in_ok-assume.ensures) _ _ c.in_ok-hypotheses.ensures _ _ (word_in_any Place (key keywords.Semicolon) c.args.room _ _ _ c.in_ok-semicolon.ensures))
