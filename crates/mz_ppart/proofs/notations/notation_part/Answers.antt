use Rattle.std.proofs.Common.{rules, ◌≡◌, true, false}
use Rattle.std.proofs.lemmas.Result.{err_from_is_err_and}
use Rattle.mz_ppattern.specs.Optional.{next_has}
use Rattle.mz_ppart.specs.Classes.{begins_let}
use Rattle.mz_ppart.proofs.NotationSteps.{let_refused, let_found, gives_part}
use Rattle.mz_ppart.proofs.notations.notation_part.Goals as goal

pub returns-in_err-loci : goal.returns-in_err-loci
returns-in_err-loci c =
    let p = err_from_is_err_and c.from_residual.result c.from_residual.ensures.1 in
    let on : next_has begins_let c.args.reader.now.rest.now ≡ true = search rules in
    rw (p.1, p.2) (let_refused c.args.room _ _ _ on c.in_err-loci.ensures)

pub returns-then-let_comes : goal.returns-then-let_comes
returns-then-let_comes c =
    let on : next_has begins_let c.args.reader.now.rest.now ≡ true = search rules in
    let_found c.args.room _ _ _ on c.in_ok-loci.ensures

pub returns : goal.returns
returns c =
    let off : next_has begins_let c.args.reader.now.rest.now ≡ false = search rules in
    gives_part c.args.room _ _ _ off c.synonym.ensures
