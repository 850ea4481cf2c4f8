use Rattle.std.proofs.lemmas.Result.{err_from_is_err_and}
use Rattle.mz_forms.proofs.Words.{word_in_any, word_refuses}
use Rattle.mz_base.specs.declared.place.Place.{Place}
use Rattle.mz_pjustification.specs.declared.keyword.Keyword.TheVariants as keywords
use Rattle.mz_pjustification.specs.Words.{key}
use Rattle.mz_pstep.proofs.StepSequences.{take_refused_1, take_refused_2, take_refused_3, take_found}
use Rattle.mz_pstep.proofs.skeletons.take.Goals as goal

pub returns-in_err-take : goal.returns-in_err-take
returns-in_err-take c =
    let p = err_from_is_err_and c.from_residual.result c.from_residual.ensures.1 in
    rw (p.1, p.2) (take_refused_1 c.args.room _ _ _ (word_refuses Place (key keywords.Take) c.args.room _ _ _ c.in_err-take.ensures))

pub returns-in_err-taken : goal.returns-in_err-taken
returns-in_err-taken c =
    let p = err_from_is_err_and c.from_residual-in_err-taken.result c.from_residual-in_err-taken.ensures.1 in
    rw (p.1, p.2) (take_refused_2 c.args.room _ _ _ (word_in_any Place (key keywords.Take) c.args.room _ _ _ c.in_ok-take.ensures) _ _ c.in_err-taken.ensures)

pub returns-in_err-semicolon : goal.returns-in_err-semicolon
returns-in_err-semicolon c =
    let p = err_from_is_err_and c.from_residual-in_err-semicolon.result c.from_residual-in_err-semicolon.ensures.1 in
    rw (p.1, p.2) (take_refused_3 c.args.room _ _ _ (word_in_any Place (key keywords.Take) c.args.room _ _ _ c.in_ok-take.ensures) _ _ c.in_ok-taken.ensures _ _ (word_refuses Place (key keywords.Semicolon) c.args.room _ _ _ c.in_err-semicolon.ensures))

pub returns : goal.returns
returns c = (take_found c.args.room _ _ _ (word_in_any Place (key keywords.Take) c.args.room _ _ _ c.in_ok-take.ensures) _ _ c.in_ok-taken.ensures _ _ (word_in_any Place (key keywords.Semicolon) c.args.room _ _ _ c.in_ok-semicolon.ensures))
