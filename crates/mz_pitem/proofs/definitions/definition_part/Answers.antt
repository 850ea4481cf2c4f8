use Rattle.std.proofs.Common.{rules, ◌≡◌, true, false}
use Rattle.std.proofs.lemmas.Result.{err_from_is_err_and}
use Rattle.mz_ppattern.specs.Optional.{next_has}
use Rattle.mz_pcluster.proofs.Joined.{shaped_refused, shaped_found}
use Rattle.mz_ppart.specs.Forms.{block_let_form}
use Rattle.mz_ppart.specs.Classes.{begins_let}
use Rattle.mz_pitem.specs.Forms.{definition_part_form}
use Rattle.mz_pitem.proofs.DefinitionSteps.{as_let, gives_part, put_let}
use Rattle.mz_pitem.proofs.definitions.definition_part.Goals as goal

pub returns-in_err-loci : goal.returns-in_err-loci
returns-in_err-loci c =
    let p = err_from_is_err_and c.from_residual.result c.from_residual.ensures.1 in
    let on : next_has begins_let c.args.reader.now.rest.now ≡ true = search rules in
    rw (p.1, p.2) (shaped_refused definition_part_form block_let_form put_let c.args.room _ (as_let _ on) _ _ c.in_err-loci.ensures)

pub returns-then-let_comes : goal.returns-then-let_comes
returns-then-let_comes c =
    let on : next_has begins_let c.args.reader.now.rest.now ≡ true = search rules in
    shaped_found definition_part_form block_let_form put_let c.args.room _ (as_let _ on) _ _ c.in_ok-loci.ensures

pub returns : goal.returns
returns c =
    let off : next_has begins_let c.args.reader.now.rest.now ≡ false = search rules in
    gives_part c.args.room _ _ _ off c.headed.ensures
