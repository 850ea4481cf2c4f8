use Rattle.std.proofs.Common.{rules, ◌≡◌, true, false}
use Rattle.std.proofs.lemmas.Result.{err_from_is_err_and}
use Rattle.mz_pheading.proofs.ModeChoices.{stated_read, stated_unread}
use Rattle.mz_pheading.proofs.modes.mode_meaning.Goals as goal

pub returns-then-typed : goal.returns-then-typed
returns-then-typed c =
    let on : c.args.typed ≡ true = search rules in
    rw on c.maybe_means.ensures

pub returns-in_err-meaning : goal.returns-in_err-meaning
returns-in_err-meaning c =
    let p = err_from_is_err_and c.from_residual.result c.from_residual.ensures.1 in
    let off : c.args.typed ≡ false = search rules in
    rw (p.1, p.2) (rw off (stated_unread c.args.room _ _ _ c.in_err-meaning.ensures))

pub returns : goal.returns
returns c =
    let off : c.args.typed ≡ false = search rules in
    rw off (stated_read c.args.room _ _ _ c.in_ok-meaning.ensures)
