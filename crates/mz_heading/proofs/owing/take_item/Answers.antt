use Rattle.std.proofs.Common.{ap, ◌∙◌}
use Rattle.mz_core.specs.declared.item.Item.{Item}
use Rattle.mz_owed.specs.Owed.{at_first}
use Rattle.mz_heading.proofs.OwingLemmas.{of_item, told_stopped, told_item}
use Rattle.mz_heading.proofs.owing.take_item.Goals as goal

pub returns-in-Err : goal.returns-in-Err
returns-in-Err g c =
    told_stopped _ c.args.least c.in_ok-count.count c.args.s.now _ c.args.label c.args.x.value c.args.ws.now c.args.behind c.in_ok-owed.owed _ _ c.args.os.now _ _ c.take_written.result c.in-Err.fault c.in_ok-count.ensures (c.in_ok-owed.ensures ∙ ap (λ (i : Item). at_first i) c.deref.ensures) (of_item c.args.least c.in_ok-count.count c.args.s.now c.args.x.value c.deref-2.result.now c.in_ok-owed.owed c.take_written.new.owed c.take_written.new.s.left c.args.ws.now c.args.os.now c.take_written.new.os c.take_written.result c.deref-2.ensures c.take_written.ensures.takes) c.in-Err.is

pub returns-in-Ok : goal.returns-in-Ok
returns-in-Ok g c =
    told_item c.args.least c.in_ok-count.count c.args.s.now c.take_written.new.s c.end_item.new.s c.args.label c.args.x.value c.args.ws.now c.in-Ok.further.now c.args.behind c.in_ok-owed.owed _ c.args.os.now c.take_written.new.os c.end_item.new.os c.take_written.result _ c.end_item.result c.in_ok-count.ensures
    (c.in_ok-owed.ensures ∙ ap (λ (i : Item). at_first i) c.deref.ensures) (of_item c.args.least c.in_ok-count.count c.args.s.now c.args.x.value c.deref-2.result.now c.in_ok-owed.owed c.take_written.new.owed c.take_written.new.s.left c.args.ws.now c.args.os.now c.take_written.new.os c.take_written.result c.deref-2.ensures c.take_written.ensures.takes) c.in-Ok.is c.take_written.ensures.same c.in-Ok.ensures.further c.end_item.ensures
