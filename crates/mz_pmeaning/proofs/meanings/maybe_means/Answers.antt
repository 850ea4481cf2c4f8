use Rattle.std.proofs.Common.{rules, ◌≡◌, true, false}
use Rattle.std.proofs.lemmas.Result.{err_from_is_err_and}
use Rattle.mz_ppattern.specs.Optional.{next_has}
use Rattle.mz_ppattern.proofs.OptionalSteps.{optional_none, optional_refused, optional_found}
use Rattle.mz_pmeaning.specs.Classes.{begins_means}
use Rattle.mz_pmeaning.specs.MeaningForms.{means_form}
use Rattle.mz_pmeaning.proofs.MeaningSteps.{starts_means, begun_means}
use Rattle.mz_pmeaning.proofs.meanings.maybe_means.Goals as goal

pub returns-then-not-means_comes : goal.returns-then-not-means_comes
returns-then-not-means_comes c =
    let off : next_has begins_means c.args.reader.now.rest.now ≡ false = search rules in
    optional_none means_form begins_means starts_means c.args.room _ off

pub returns-in_err-meaning : goal.returns-in_err-meaning
returns-in_err-meaning c =
    let p = err_from_is_err_and c.from_residual.result c.from_residual.ensures.1 in
    let on : next_has begins_means c.args.reader.now.rest.now ≡ true = search rules in
    rw (p.1, p.2) (optional_refused means_form begins_means starts_means begun_means c.args.room _ _ _ on c.in_err-meaning.ensures)

pub returns : goal.returns
returns c =
    let on : next_has begins_means c.args.reader.now.rest.now ≡ true = search rules in
    optional_found means_form begins_means starts_means begun_means c.args.room _ _ _ on c.in_ok-meaning.ensures
