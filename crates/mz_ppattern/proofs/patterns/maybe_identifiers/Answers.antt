use Rattle.std.proofs.Common.{rules, ◌≡◌, true, false}
use Rattle.std.proofs.lemmas.Result.{err_from_is_err_and}
use Rattle.mz_ppattern.specs.Optional.{next_has}
use Rattle.mz_ppattern.specs.Classes.{begins_identifiers}
use Rattle.mz_ppattern.specs.Forms.{identifiers_form}
use Rattle.mz_ppattern.proofs.LociSteps.{starts_identifiers, begun_identifiers}
use Rattle.mz_ppattern.proofs.OptionalSteps.{optional_none, optional_refused, optional_found}
use Rattle.mz_ppattern.proofs.patterns.maybe_identifiers.Goals as goal

pub returns-then-not-identifier_comes : goal.returns-then-not-identifier_comes
returns-then-not-identifier_comes c =
    let off : next_has begins_identifiers c.args.reader.now.rest.now ≡ false = search rules in
    optional_none identifiers_form begins_identifiers starts_identifiers c.args.room _ off

pub returns-in_err-identifiers : goal.returns-in_err-identifiers
returns-in_err-identifiers c =
    let p = err_from_is_err_and c.from_residual.result c.from_residual.ensures.1 in
    let on : next_has begins_identifiers c.args.reader.now.rest.now ≡ true = search rules in
    rw (p.1, p.2) (optional_refused identifiers_form begins_identifiers starts_identifiers begun_identifiers c.args.room _ _ _ on (c.in_err-identifiers.ensures c.args.room))

pub returns : goal.returns
returns c =
    let on : next_has begins_identifiers c.args.reader.now.rest.now ≡ true = search rules in
    optional_found identifiers_form begins_identifiers starts_identifiers begun_identifiers c.args.room _ _ _ on (c.in_ok-identifiers.ensures c.args.room)
