use Rattle.std.proofs.Common.{rules, ◌≡◌, true, false}
use Rattle.std.proofs.lemmas.Result.{err_from_is_err_and}
use Rattle.mz_ppattern.specs.Optional.{next_has}
use Rattle.mz_ppattern.proofs.OptionalSteps.{optional_none, optional_refused, optional_found}
use Rattle.mz_pcluster.specs.Classes.{begins_for_type}
use Rattle.mz_pcluster.specs.Forms.{for_type_form}
use Rattle.mz_pcluster.proofs.PartSteps.{starts_for_type, begun_for_type}
use Rattle.mz_pcluster.proofs.parts.maybe_for_type.Goals as goal

pub returns-then-not-for_comes : goal.returns-then-not-for_comes
returns-then-not-for_comes c =
    let off : next_has begins_for_type c.args.reader.now.rest.now ≡ false = search rules in
    optional_none for_type_form begins_for_type starts_for_type c.args.room _ off

pub returns-in_err-for_type : goal.returns-in_err-for_type
returns-in_err-for_type c =
    let p = err_from_is_err_and c.from_residual.result c.from_residual.ensures.1 in
    let on : next_has begins_for_type c.args.reader.now.rest.now ≡ true = search rules in
    rw (p.1, p.2) (optional_refused for_type_form begins_for_type starts_for_type begun_for_type c.args.room _ _ _ on c.in_err-for_type.ensures)

pub returns : goal.returns
returns c =
    let on : next_has begins_for_type c.args.reader.now.rest.now ≡ true = search rules in
    optional_found for_type_form begins_for_type starts_for_type begun_for_type c.args.room _ _ _ on c.in_ok-for_type.ensures
