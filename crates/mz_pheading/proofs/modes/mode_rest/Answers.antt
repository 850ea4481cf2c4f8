use Rattle.std.proofs.Common.{refl}
use Rattle.std.proofs.lemmas.Result.{err_from_is_err_and}
use Rattle.mz_forms.proofs.Words.{word_in_any, word_refuses}
use Rattle.mz_base.specs.declared.place.Place.{Place}
use Rattle.mz_pjustification.specs.declared.keyword.Keyword.TheVariants as keywords
use Rattle.mz_pjustification.specs.Words.{key}
use Rattle.mz_pheading.specs.ModeForms.{abbreviates, defines}
use Rattle.mz_pheading.proofs.ModeChoices.{abbreviated, definition_found, definition_refused_1, definition_refused_2, definition_refused_3, end_stopped, type_stopped}
use Rattle.mz_pheading.proofs.modes.mode_rest.Goals as goal

pub returns-in_err-node : goal.returns-in_err-node
returns-in_err-node c =
    let p = err_from_is_err_and c.from_residual.result c.from_residual.ensures.1 in
    let taken = rw c.in-Some.is at c.takes.ensures in
    rw (p.1, p.2) (type_stopped c.args.room _ _ _ taken _ _ c.in_err-node.ensures)

pub returns-in_err-semicolon : goal.returns-in_err-semicolon
returns-in_err-semicolon c =
    let p = err_from_is_err_and c.from_residual-in_err-semicolon.result c.from_residual-in_err-semicolon.ensures.1 in
    let taken = rw c.in-Some.is at c.takes.ensures in
    rw (p.1, p.2) (end_stopped c.args.room _ _ _ taken _ _ c.in_ok-node.ensures _ _ (word_refuses Place (key keywords.Semicolon) c.args.room _ _ _ c.in_err-semicolon.ensures))

pub returns-in-Some : goal.returns-in-Some
returns-in-Some c =
    let taken = rw c.in-Some.is at c.takes.ensures in
    rw c.from_node-ty.ensures (abbreviates _ _ _, abbreviated c.args.room _ _ _ taken _ _ c.in_ok-node.ensures _ _ (word_in_any Place (key keywords.Semicolon) c.args.room _ _ _ c.in_ok-semicolon.ensures), refl)

pub returns-in_err-result : goal.returns-in_err-result
returns-in_err-result c =
    let p = err_from_is_err_and c.from_residual-in_err-result.result c.from_residual-in_err-result.ensures.1 in
    let none = rw c.in_default.is at c.takes.ensures in
    rw (p.1, p.2) (definition_refused_1 c.args.room _ _ none _ _ c.in_err-result.ensures)

pub returns-in_err-meaning : goal.returns-in_err-meaning
returns-in_err-meaning c =
    let p = err_from_is_err_and c.from_residual-in_err-meaning.result c.from_residual-in_err-meaning.ensures.1 in
    let none = rw c.in_default.is at c.takes.ensures in
    rw (p.1, p.2) (definition_refused_2 c.args.room _ _ none _ _ c.in_ok-result.ensures _ _ c.in_err-meaning.ensures)

pub returns-in_err-semicolon-2 : goal.returns-in_err-semicolon-2
returns-in_err-semicolon-2 c =
    let p = err_from_is_err_and c.from_residual-in_err-semicolon-2.result c.from_residual-in_err-semicolon-2.ensures.1 in
    let none = rw c.in_default.is at c.takes.ensures in
    rw (p.1, p.2) (definition_refused_3 c.args.room _ _ none _ _ c.in_ok-result.ensures _ _ c.in_ok-meaning.ensures _ _ (word_refuses Place (key keywords.Semicolon) c.args.room _ _ _ c.in_err-semicolon-2.ensures))

pub returns : goal.returns
returns c =
    let none = rw c.in_default.is at c.takes.ensures in
    (defines _ _ _, definition_found c.args.room _ _ none _ _ c.in_ok-result.ensures _ _ c.in_ok-meaning.ensures _ _ (word_in_any Place (key keywords.Semicolon) c.args.room _ _ _ c.in_ok-semicolon-2.ensures), refl)
