use Rattle.std.proofs.lemmas.Result.{err_from_is_err_and}
use Rattle.mz_forms.proofs.Words.{word_in_any, word_refuses}
use Rattle.mz_base.specs.declared.place.Place.{Place}
use Rattle.mz_pjustification.specs.declared.keyword.Keyword.TheVariants as keywords
use Rattle.mz_pjustification.specs.Words.{key}
use Rattle.mz_ppart.proofs.PartSequences.{directive_refused_1, directive_refused_2, directive_refused_3, directive_found}
use Rattle.mz_ppart.proofs.directives.directive.Goals as goal

pub returns-in_err-word : goal.returns-in_err-word
returns-in_err-word c = λ room.
    let p = err_from_is_err_and c.from_residual.result c.from_residual.ensures.1 in
    rw (p.1, p.2) (directive_refused_1 room _ _ _ (c.in_err-word.ensures room))

pub returns-in_err-names : goal.returns-in_err-names
returns-in_err-names c = λ room.
    let p = err_from_is_err_and c.from_residual-in_err-names.result c.from_residual-in_err-names.ensures.1 in
    rw (p.1, p.2) (directive_refused_2 room _ _ _ (c.in_ok-word.ensures room) _ _ (c.in_err-names.ensures room))

pub returns-in_err-semicolon : goal.returns-in_err-semicolon
returns-in_err-semicolon c = λ room.
    let p = err_from_is_err_and c.from_residual-in_err-semicolon.result c.from_residual-in_err-semicolon.ensures.1 in
    rw (p.1, p.2) (directive_refused_3 room _ _ _ (c.in_ok-word.ensures room) _ _ (c.in_ok-names.ensures room) _ _ (word_refuses Place (key keywords.Semicolon) room _ _ _ c.in_err-semicolon.ensures))

pub returns : goal.returns
returns c = λ room. directive_found room _ _ _ (c.in_ok-word.ensures room) _ _ (c.in_ok-names.ensures room) _ _ (word_in_any Place (key keywords.Semicolon) room _ _ _ c.in_ok-semicolon.ensures)
