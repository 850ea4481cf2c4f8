use Rattle.std.proofs.Common.{rules, ◌≡◌, true, false}
use Rattle.std.proofs.lemmas.Result.{err_from_is_err_and}
use Rattle.mz_ppattern.specs.Optional.{next_has}
use Rattle.mz_ppattern.specs.Classes.{begins_mode_loci}
use Rattle.mz_ppattern.specs.Forms.{mode_loci_form}
use Rattle.mz_ppattern.proofs.LociSteps.{starts_mode_loci, begun_mode_loci}
use Rattle.mz_ppattern.proofs.OptionalSteps.{optional_none, optional_refused, optional_found}
use Rattle.mz_ppattern.proofs.patterns.maybe_mode_loci.Goals as goal

pub returns-then-not-of_comes : goal.returns-then-not-of_comes
returns-then-not-of_comes c =
    let off : next_has begins_mode_loci c.args.reader.now.rest.now ≡ false = search rules in
    optional_none mode_loci_form begins_mode_loci starts_mode_loci c.args.room _ off

pub returns-in_err-loci : goal.returns-in_err-loci
returns-in_err-loci c =
    let p = err_from_is_err_and c.from_residual.result c.from_residual.ensures.1 in
    let on : next_has begins_mode_loci c.args.reader.now.rest.now ≡ true = search rules in
    rw (p.1, p.2) (optional_refused mode_loci_form begins_mode_loci starts_mode_loci begun_mode_loci c.args.room _ _ _ on c.in_err-loci.ensures)

pub returns : goal.returns
returns c =
    let on : next_has begins_mode_loci c.args.reader.now.rest.now ≡ true = search rules in
    optional_found mode_loci_form begins_mode_loci starts_mode_loci begun_mode_loci c.args.room _ _ _ on c.in_ok-loci.ensures
