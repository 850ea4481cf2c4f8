use Rattle.std.proofs.Common.{rules, ◌≡◌, true, false, refl}
use Rattle.std.proofs.lemmas.Result.{err_from_is_err_and}
use Rattle.mz_ppattern.specs.Optional.{next_has}
use Rattle.mz_ppattern.specs.Classes.{begins_identifiers}
use Rattle.mz_ppattern.proofs.LociSteps.{one_refused, one_found, several_refused, several_found}
use Rattle.mz_ppattern.proofs.patterns.loci.Goals as goal

pub returns-in_err-name : goal.returns-in_err-name
returns-in_err-name c =
    let p = err_from_is_err_and c.from_residual.result c.from_residual.ensures.1 in
    let on : next_has begins_identifiers c.args.reader.now.rest.now ≡ true = search rules in
    rw (p.1, p.2) (one_refused c.args.room _ _ _ on c.in_err-name.ensures)

pub returns-then-identifier_comes : goal.returns-then-identifier_comes
returns-then-identifier_comes c =
    let on : next_has begins_identifiers c.args.reader.now.rest.now ≡ true = search rules in
    one_found c.args.room _ _ _ on c.in_ok-name.ensures

pub returns-in_err-left : goal.returns-in_err-left
returns-in_err-left c =
    let p = err_from_is_err_and c.from_residual-in_err-left.result c.from_residual-in_err-left.ensures.1 in
    let off : next_has begins_identifiers c.args.reader.now.rest.now ≡ false = search rules in
    rw (p.1, p.2) (several_refused c.args.room _ _ _ off c.in_err-left.ensures)

pub returns : goal.returns
returns c =
    let off : next_has begins_identifiers c.args.reader.now.rest.now ≡ false = search rules in
    several_found c.args.room _ _ _ off c.in_ok-left.ensures
