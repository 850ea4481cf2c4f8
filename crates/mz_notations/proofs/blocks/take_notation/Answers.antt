use Rattle.std.proofs.Common.{sym, ◌∙◌}
use Rattle.mz_notations.specs.Notes.{new_unfit, old_unfit}
use Rattle.mz_notations.proofs.BlockLemmas.{told_unlike, told_unread, told_noted}
use Rattle.mz_notations.proofs.blocks.take_notation.Goals as goal

pub returns-in-None : goal.returns-in-None
returns-in-None c = new_unfit (sym c.in_ok-new_there.ensures ∙ c.in-None.is)

pub returns-in-None-2 : goal.returns-in-None-2
returns-in-None-2 c = old_unfit c.in-Some.v (sym c.in_ok-new_there.ensures ∙ c.in-Some.is) (sym c.in_ok-old_there-in-Some.ensures ∙ c.in-None-2.is)

pub returns-then-not-are_alike : goal.returns-then-not-are_alike
returns-then-not-are_alike c =
    told_unlike _ c.args.least c.args.s.now _ c.args.place c.args.w c.args.p.now c.args.q.now c.in-Some.v c.in-Some-2.u c.are_alike.result c.symbol_place.result c.unread.result (sym c.in_ok-new_there.ensures ∙ c.in-Some.is) (sym c.in_ok-old_there-in-Some.ensures ∙ c.in-Some-2.is) c.are_alike.ensures
    c.if-not-are_alike.true c.symbol_place.ensures c.unread.ensures

pub returns-in-Err : goal.returns-in-Err
returns-in-Err c =
    told_unread _ c.args.least c.args.s.now _ c.args.place c.args.w c.args.p.now c.args.q.now c.in-Some.v c.in-Some-2.u c.are_alike.result c.in_ok-r-in-Some-2.field-0 c.in-Err.r c.unread-in-Err.result (sym c.in_ok-new_there.ensures ∙ c.in-Some.is)
    (sym c.in_ok-old_there-in-Some.ensures ∙ c.in-Some-2.is) c.are_alike.ensures c.if-not-are_alike.false c.in_ok-r-in-Some-2.ensures c.in-Err.is c.unread-in-Err.ensures

pub returns-in_ok-make_notation-in-Ok : goal.returns-in_ok-make_notation-in-Ok
returns-in_ok-make_notation-in-Ok c =
    told_noted c.args.least c.args.s.now c.make_notation.new.s c.args.place c.args.w c.args.p.now c.args.q.now c.in-Some.v c.in-Some-2.u c.are_alike.result c.in_ok-r-in-Some-2.field-0 c.in-Ok.m (sym c.in_ok-new_there.ensures ∙ c.in-Some.is)
    (sym c.in_ok-old_there-in-Some.ensures ∙ c.in-Some-2.is) c.are_alike.ensures c.if-not-are_alike.false c.in_ok-r-in-Some-2.ensures c.in-Ok.is c.in_ok-make_notation-in-Ok.ensures
