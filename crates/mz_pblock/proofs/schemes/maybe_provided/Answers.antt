use Rattle.std.proofs.Common.{rules, ◌≡◌, true, false}
use Rattle.std.proofs.lemmas.Result.{err_from_is_err_and}
use Rattle.mz_ppattern.specs.Optional.{next_has}
use Rattle.mz_ppattern.proofs.OptionalSteps.{optional_none, optional_refused, optional_found}
use Rattle.mz_pblock.specs.Classes.{begins_provided}
use Rattle.mz_pblock.specs.Forms.{provided_form}
use Rattle.mz_pblock.proofs.SchemeSteps.{begun_provided, starts_provided}
use Rattle.mz_pblock.proofs.schemes.maybe_provided.Goals as goal

pub returns-then-not-word_comes : goal.returns-then-not-word_comes
returns-then-not-word_comes c =
    let off : next_has begins_provided c.args.reader.now.rest.now ≡ false = search rules in
    optional_none provided_form begins_provided starts_provided c.args.room _ off

pub returns-in_err-provided : goal.returns-in_err-provided
returns-in_err-provided c =
    let p = err_from_is_err_and c.from_residual.result c.from_residual.ensures.1 in
    let on : next_has begins_provided c.args.reader.now.rest.now ≡ true = search rules in
    rw (p.1, p.2) (optional_refused provided_form begins_provided starts_provided begun_provided c.args.room _ _ _ on c.in_err-provided.ensures)

pub returns : goal.returns
returns c =
    let on : next_has begins_provided c.args.reader.now.rest.now ≡ true = search rules in
    optional_found provided_form begins_provided starts_provided begun_provided c.args.room _ _ _ on c.in_ok-provided.ensures
