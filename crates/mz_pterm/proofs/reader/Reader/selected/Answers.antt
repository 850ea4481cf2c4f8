use Rattle.std.proofs.Common.{rules, ◌≡◌, true}
use Rattle.std.proofs.lemmas.Result.{err_from_is_err_and}
use Rattle.mz_pterm.proofs.Results.{the_refused, the_of, the_alone, the_not_alone}
use Rattle.mz_pterm.proofs.reader.Reader.selected.Goals as goal

pub returns-in_err-selector : goal.returns-in_err-selector
returns-in_err-selector c = λ behind room.
    let p = err_from_is_err_and c.from_residual.result c.from_residual.ensures.1 in
    let is = rw c.in-Some.is at c.takes.ensures in
    rw (p.1, p.2) (the_refused c.args.field behind room _ _ _ is _ _ c.in_err-selector.ensures)

pub returns-in-Some-takes : goal.returns-in-Some-takes
returns-in-Some-takes c = λ behind room.
    let is = rw c.in-Some.is at c.takes.ensures in
    let of = rw c.in-Some-takes.is at c.takes-2.ensures in
    the_of c.args.field behind room _ _ _ is _ _ c.in_ok-selector.ensures _ _ of

pub returns-then-field : goal.returns-then-field
returns-then-field c = λ behind room.
    let is = rw c.in-Some.is at c.takes.ensures in
    let none = rw c.in-None.is at c.takes-2.ensures in
    let on : c.args.field ≡ true = search rules in
    the_alone c.args.field behind room _ _ _ is _ _ c.in_ok-selector.ensures _ on none

pub returns-else-field : goal.returns-else-field
returns-else-field c = λ behind room.
    let is = rw c.in-Some.is at c.takes.ensures in
    let none = rw c.in-None.is at c.takes-2.ensures in
    let off : c.args.field ≡ true → ⊥ = search rules in
    the_not_alone c.args.field behind room _ _ _ is _ _ c.in_ok-selector.ensures _ off none
