use Rattle.std.proofs.Common.{rules, ◌≡◌, true, false}
use Rattle.std.proofs.lemmas.Result.{err_from_is_err_and}
use Rattle.mz_ppattern.specs.Optional.{next_has}
use Rattle.mz_ppattern.proofs.OptionalSteps.{optional_none, optional_refused, optional_found}
use Rattle.mz_pmeaning.specs.Classes.{begins_meaning}
use Rattle.mz_pmeaning.specs.MeaningForms.{meaning_form}
use Rattle.mz_pmeaning.proofs.MeaningSteps.{starts_meaning, begun_meaning}
use Rattle.mz_pmeaning.proofs.meanings.maybe_meaning.Goals as goal

pub returns-then-not-meaning_comes : goal.returns-then-not-meaning_comes
returns-then-not-meaning_comes c =
    let off : next_has begins_meaning c.args.reader.now.rest.now ≡ false = search rules in
    optional_none meaning_form begins_meaning starts_meaning c.args.room _ off

pub returns-in_err-meaning : goal.returns-in_err-meaning
returns-in_err-meaning c =
    let p = err_from_is_err_and c.from_residual.result c.from_residual.ensures.1 in
    let on : next_has begins_meaning c.args.reader.now.rest.now ≡ true = search rules in
    rw (p.1, p.2) (optional_refused meaning_form begins_meaning starts_meaning begun_meaning c.args.room _ _ _ on c.in_err-meaning.ensures)

pub returns : goal.returns
returns c =
    let on : next_has begins_meaning c.args.reader.now.rest.now ≡ true = search rules in
    optional_found meaning_form begins_meaning starts_meaning begun_meaning c.args.room _ _ _ on c.in_ok-meaning.ensures
