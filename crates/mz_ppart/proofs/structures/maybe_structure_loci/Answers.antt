use Rattle.std.proofs.Common.{rules, ◌≡◌, true, false}
use Rattle.std.proofs.lemmas.Result.{err_from_is_err_and}
use Rattle.mz_ppattern.specs.Optional.{next_has}
use Rattle.mz_ppattern.proofs.OptionalSteps.{optional_none, optional_refused, optional_found}
use Rattle.mz_ppart.specs.Classes.{begins_structure_loci}
use Rattle.mz_ppart.specs.StructureForms.{structure_loci_form}
use Rattle.mz_ppart.proofs.StructureSequences.{starts_structure_loci, begun_structure_loci}
use Rattle.mz_ppart.proofs.structures.maybe_structure_loci.Goals as goal

pub returns-then-not-over_comes : goal.returns-then-not-over_comes
returns-then-not-over_comes c =
    let off : next_has begins_structure_loci c.args.reader.now.rest.now ≡ false = search rules in
    optional_none structure_loci_form begins_structure_loci starts_structure_loci c.args.room _ off

pub returns-in_err-loci : goal.returns-in_err-loci
returns-in_err-loci c =
    let p = err_from_is_err_and c.from_residual.result c.from_residual.ensures.1 in
    let on : next_has begins_structure_loci c.args.reader.now.rest.now ≡ true = search rules in
    rw (p.1, p.2) (optional_refused structure_loci_form begins_structure_loci starts_structure_loci begun_structure_loci c.args.room _ _ _ on c.in_err-loci.ensures)

pub returns : goal.returns
returns c =
    let on : next_has begins_structure_loci c.args.reader.now.rest.now ≡ true = search rules in
    optional_found structure_loci_form begins_structure_loci starts_structure_loci begun_structure_loci c.args.room _ _ _ on c.in_ok-loci.ensures
