use Rattle.std.proofs.Common.{◌∙◌}
use Rattle.std.proofs.lemmas.Result.{err_from_is_err_and}
use Rattle.mz_pjustification.proofs.SimpleSteps.{by_refused, by_found, scheme_unread, from_refused, from_found}
use Rattle.mz_pjustification.proofs.simple.simple.Goals as goal

pub returns-in_err-references : goal.returns-in_err-references
returns-in_err-references c =
    let p = err_from_is_err_and c.from_residual.result c.from_residual.ensures.1 in
    let taken = rw c.in-Some.is at c.takes_key.ensures in
    rw (p.1, p.2) (by_refused c.args.room _ _ _ _ _ taken (c.in_err-references.ensures _))

pub returns-in-Some : goal.returns-in-Some
returns-in-Some c =
    let taken = rw c.in-Some.is at c.takes_key.ensures in
    by_found c.args.room _ _ _ _ _ taken (c.in_ok-references.ensures _)

pub returns-in_err-scheme : goal.returns-in_err-scheme
returns-in_err-scheme c =
    let p = err_from_is_err_and c.from_residual-in_err-scheme.result c.from_residual-in_err-scheme.ensures.1 in
    let none = rw c.in_default.is at c.takes_key.ensures in
    let taken = rw c.in-Some-takes_key.is at c.takes_key-2.ensures in
    rw (p.1, p.2) (scheme_unread c.args.room _ _ _ _ _ (none.0 ∙ taken) (c.in_err-scheme.ensures _))

pub returns-in_err-premises : goal.returns-in_err-premises
returns-in_err-premises c =
    let p = err_from_is_err_and c.from_residual-in_err-premises.result c.from_residual-in_err-premises.ensures.1 in
    let none = rw c.in_default.is at c.takes_key.ensures in
    let taken = rw c.in-Some-takes_key.is at c.takes_key-2.ensures in
    rw (p.1, p.2) (from_refused c.args.room _ _ _ _ _ _ _ (none.0 ∙ taken) (c.in_ok-scheme.ensures _) c.in_err-premises.ensures)

pub returns : goal.returns
returns c =
    let none = rw c.in_default.is at c.takes_key.ensures in
    let taken = rw c.in-Some-takes_key.is at c.takes_key-2.ensures in
    from_found c.args.room _ _ _ _ _ _ _ (none.0 ∙ taken) (c.in_ok-scheme.ensures _) c.in_ok-premises.ensures
