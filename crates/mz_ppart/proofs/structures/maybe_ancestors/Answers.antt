use Rattle.std.proofs.Common.{rules, ◌≡◌, true, false}
use Rattle.std.proofs.lemmas.Result.{err_from_is_err_and}
use Rattle.mz_ppattern.specs.Optional.{next_has}
use Rattle.mz_ppattern.proofs.OptionalSteps.{optional_none, optional_refused, optional_found}
use Rattle.mz_ppart.specs.Classes.{begins_ancestors}
use Rattle.mz_ppart.specs.StructureForms.{ancestors_form}
use Rattle.mz_ppart.proofs.StructureSequences.{starts_ancestors, begun_ancestors}
use Rattle.mz_ppart.proofs.structures.maybe_ancestors.Goals as goal

pub returns-then-not-ancestors_come : goal.returns-then-not-ancestors_come
returns-then-not-ancestors_come c =
    let off : next_has begins_ancestors c.args.reader.now.rest.now ≡ false = search rules in
    optional_none ancestors_form begins_ancestors starts_ancestors c.args.room _ off

pub returns-in_err-ancestors : goal.returns-in_err-ancestors
returns-in_err-ancestors c =
    let p = err_from_is_err_and c.from_residual.result c.from_residual.ensures.1 in
    let on : next_has begins_ancestors c.args.reader.now.rest.now ≡ true = search rules in
    rw (p.1, p.2) (optional_refused ancestors_form begins_ancestors starts_ancestors begun_ancestors c.args.room _ _ _ on c.in_err-ancestors.ensures)

pub returns : goal.returns
returns c =
    let on : next_has begins_ancestors c.args.reader.now.rest.now ≡ true = search rules in
    optional_found ancestors_form begins_ancestors starts_ancestors begun_ancestors c.args.room _ _ _ on c.in_ok-ancestors.ensures
