use Rattle.std.proofs.Common.{rules, ◌≡◌, true, false}
use Rattle.std.proofs.lemmas.Result.{err_from_is_err_and}
use Rattle.mz_ppattern.specs.Optional.{next_has}
use Rattle.mz_ppattern.specs.Classes.{begins_loci}
use Rattle.mz_ppattern.specs.Forms.{loci_form}
use Rattle.mz_ppattern.proofs.LociSteps.{starts_loci, begun_loci}
use Rattle.mz_ppattern.proofs.OptionalSteps.{optional_none, optional_refused, optional_found}
use Rattle.mz_ppattern.proofs.patterns.maybe_loci.Goals as goal

pub returns-then-not-loci_come : goal.returns-then-not-loci_come
returns-then-not-loci_come c =
    let off : next_has begins_loci c.args.reader.now.rest.now ≡ false = search rules in
    optional_none loci_form begins_loci starts_loci c.args.room _ off

pub returns-in_err-loci : goal.returns-in_err-loci
returns-in_err-loci c =
    let p = err_from_is_err_and c.from_residual.result c.from_residual.ensures.1 in
    let on : next_has begins_loci c.args.reader.now.rest.now ≡ true = search rules in
    rw (p.1, p.2) (optional_refused loci_form begins_loci starts_loci begun_loci c.args.room _ _ _ on c.in_err-loci.ensures)

pub returns : goal.returns
returns c =
    let on : next_has begins_loci c.args.reader.now.rest.now ≡ true = search rules in
    optional_found loci_form begins_loci starts_loci begun_loci c.args.room _ _ _ on c.in_ok-loci.ensures
