use Rattle.std.proofs.Common.{◌≡◌, ◌<◌, ap, sym, ◌∙◌, arith}
use Rattle.mz_core.specs.Statement.{Statement, For}
use Rattle.mz_core.specs.StatementView.{statement_of}
use Rattle.mz_problem.proofs.OpenedLemmas.{leading, told_shorter, told_at_constant}
use Rattle.mz_problem.proofs.opened.+open.Goals as goal

pub open-requires : goal.open-requires
open-requires t c =
    let e : c.args.s.now ≡ For c.in-For.ty c.in-For.body.value = sym c.s.view_is ∙ ap statement_of c.in-For.is in
    let lt : leading c.in_ok-at-in-For.at < leading c.args.s.now = told_shorter _ _ _ _ _ _ e c.deref.ensures c.in_ok-at-in-For.ensures.at in
    let d : leading c.args.s.now ≡ t = c.decreases in
    omega (arith, lt, d)

pub returns-in_ok-at-in-For : goal.returns-in_ok-at-in-For
returns-in_ok-at-in-For t c =
    let e : c.args.s.now ≡ For c.in-For.ty c.in-For.body.value = sym c.s.view_is ∙ ap statement_of c.in-For.is in
    record { opens = told_at_constant c.open.result c.args.constants.now c.open_one.new.constants c.open.new.constants c.args.types.now c.open_one.new.types c.open.new.types _ c.args.s.now _ _ _ e c.deref.ensures c.in_ok-at-in-For.ensures.at c.in_ok-at-in-For.ensures.constants c.in_ok-at-in-For.ensures.types c.open.ensures.opens }
