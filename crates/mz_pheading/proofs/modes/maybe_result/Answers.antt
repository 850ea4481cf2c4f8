use Rattle.std.proofs.Common.{rules, ◌≡◌, true, false}
use Rattle.std.proofs.lemmas.Result.{err_from_is_err_and}
use Rattle.mz_ppattern.specs.Optional.{next_has}
use Rattle.mz_ppattern.proofs.OptionalSteps.{optional_none, optional_refused, optional_found}
use Rattle.mz_ppattern.specs.Words.{is_arrow}
use Rattle.mz_pheading.specs.ModeForms.{result_form}
use Rattle.mz_pheading.proofs.ModeSteps.{starts_result, begun_result}
use Rattle.mz_pheading.proofs.modes.maybe_result.Goals as goal

pub returns-then-not-arrow_comes : goal.returns-then-not-arrow_comes
returns-then-not-arrow_comes c =
    let off : next_has is_arrow c.args.reader.now.rest.now ≡ false = search rules in
    optional_none result_form is_arrow starts_result c.args.room _ off

pub returns-in_err-result : goal.returns-in_err-result
returns-in_err-result c =
    let p = err_from_is_err_and c.from_residual.result c.from_residual.ensures.1 in
    let on : next_has is_arrow c.args.reader.now.rest.now ≡ true = search rules in
    rw (p.1, p.2) (optional_refused result_form is_arrow starts_result begun_result c.args.room _ _ _ on c.in_err-result.ensures)

pub returns : goal.returns
returns c =
    let on : next_has is_arrow c.args.reader.now.rest.now ≡ true = search rules in
    optional_found result_form is_arrow starts_result begun_result c.args.room _ _ _ on c.in_ok-result.ensures
