use Rattle.std.proofs.lemmas.Result.{err_from_is_err_and}
use Rattle.mz_forms.proofs.Words.{word_in_any, word_refuses}
use Rattle.std.specs.Prelude.{codes}
use Rattle.mz_base.specs.declared.place.Place.{Place}
use Rattle.mz_pjustification.specs.declared.keyword.Keyword.TheVariants as keywords
use Rattle.mz_pjustification.specs.Words.{key}
use Rattle.mz_ppattern.specs.Words.{word_token}
use Rattle.mz_pmeaning.specs.MeaningForms.{optional_meaning}
use Rattle.mz_pmeaning.proofs.MeaningSteps.{optional_meaning_is_meant}
use Rattle.mz_pheading.proofs.HeadingSequences.{functor_refused_1, functor_refused_2, functor_refused_3, functor_refused_4, functor_refused_5, functor_found}
use Rattle.mz_pheading.proofs.headings.redefined_functor.Goals as goal

pub returns-in_err-func : goal.returns-in_err-func
returns-in_err-func c =
    let p = err_from_is_err_and c.from_residual.result c.from_residual.ensures.1 in
    rw (p.1, p.2) (functor_refused_1 optional_meaning optional_meaning_is_meant c.args.room _ _ _ (word_refuses Place (word_token (codes "func")) c.args.room _ _ _ c.in_err-func.ensures))

pub returns-in_err-pattern : goal.returns-in_err-pattern
returns-in_err-pattern c =
    let p = err_from_is_err_and c.from_residual-in_err-pattern.result c.from_residual-in_err-pattern.ensures.1 in
    rw (p.1, p.2) (functor_refused_2 optional_meaning optional_meaning_is_meant c.args.room _ _ _ (word_in_any Place (word_token (codes "func")) c.args.room _ _ _ c.in_ok-func.ensures) _ _ c.in_err-pattern.ensures)

pub returns-in_err-result : goal.returns-in_err-result
returns-in_err-result c =
    let p = err_from_is_err_and c.from_residual-in_err-result.result c.from_residual-in_err-result.ensures.1 in
    rw (p.1, p.2) (functor_refused_3 optional_meaning optional_meaning_is_meant c.args.room _ _ _ (word_in_any Place (word_token (codes "func")) c.args.room _ _ _ c.in_ok-func.ensures) _ _ c.in_ok-pattern.ensures _ _ c.in_err-result.ensures)

pub returns-in_err-meaning : goal.returns-in_err-meaning
returns-in_err-meaning c =
    let p = err_from_is_err_and c.from_residual-in_err-meaning.result c.from_residual-in_err-meaning.ensures.1 in
    rw (p.1, p.2) (functor_refused_4 optional_meaning optional_meaning_is_meant c.args.room _ _ _ (word_in_any Place (word_token (codes "func")) c.args.room _ _ _ c.in_ok-func.ensures) _ _ c.in_ok-pattern.ensures _ _ c.in_ok-result.ensures _ _ c.in_err-meaning.ensures)

pub returns-in_err-semicolon : goal.returns-in_err-semicolon
returns-in_err-semicolon c =
    let p = err_from_is_err_and c.from_residual-in_err-semicolon.result c.from_residual-in_err-semicolon.ensures.1 in
    rw (p.1, p.2) (functor_refused_5 optional_meaning optional_meaning_is_meant c.args.room _ _ _ (word_in_any Place (word_token (codes "func")) c.args.room _ _ _ c.in_ok-func.ensures) _ _ c.in_ok-pattern.ensures _ _ c.in_ok-result.ensures _ _ c.in_ok-meaning.ensures _ _ (word_refuses Place (key keywords.Semicolon) c.args.room _ _ _ c.in_err-semicolon.ensures))

pub returns : goal.returns
returns c = functor_found optional_meaning optional_meaning_is_meant c.args.room _ _ _ (word_in_any Place (word_token (codes "func")) c.args.room _ _ _ c.in_ok-func.ensures) _ _ c.in_ok-pattern.ensures _ _ c.in_ok-result.ensures _ _ c.in_ok-meaning.ensures _ _ (word_in_any Place (key keywords.Semicolon) c.args.room _ _ _ c.in_ok-semicolon.ensures)
