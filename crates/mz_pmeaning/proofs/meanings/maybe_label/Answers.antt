use Rattle.std.proofs.Common.{rules, ◌≡◌, true, false}
use Rattle.std.proofs.lemmas.Result.{err_from_is_err_and}
use Rattle.mz_ppattern.specs.Optional.{next_has}
use Rattle.mz_ppattern.proofs.OptionalSteps.{optional_none, optional_refused, optional_found}
use Rattle.mz_pmeaning.specs.Classes.{begins_label}
use Rattle.mz_pmeaning.specs.MeaningForms.{definition_label_form}
use Rattle.mz_pmeaning.proofs.MeaningSteps.{starts_label, begun_label}
use Rattle.mz_pmeaning.proofs.meanings.maybe_label.Goals as goal

pub returns-then-not-label_comes : goal.returns-then-not-label_comes
returns-then-not-label_comes c = λ room.
    let off : next_has begins_label c.args.reader.now.rest.now ≡ false = search rules in
    optional_none definition_label_form begins_label starts_label room _ off

pub returns-in_err-label : goal.returns-in_err-label
returns-in_err-label c = λ room.
    let p = err_from_is_err_and c.from_residual.result c.from_residual.ensures.1 in
    let on : next_has begins_label c.args.reader.now.rest.now ≡ true = search rules in
    rw (p.1, p.2) (optional_refused definition_label_form begins_label starts_label begun_label room _ _ _ on (c.in_err-label.ensures room))

pub returns : goal.returns
returns c = λ room.
    let on : next_has begins_label c.args.reader.now.rest.now ≡ true = search rules in
    optional_found definition_label_form begins_label starts_label begun_label room _ _ _ on (c.in_ok-label.ensures room)
