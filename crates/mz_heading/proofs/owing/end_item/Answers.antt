use Rattle.std.proofs.Common.{◌∙◌}
use Rattle.mz_heading.proofs.OwingLemmas.{told_end_stopped, told_end_item}
use Rattle.mz_heading.proofs.owing.end_item.Goals as goal

pub returns-in-Err : goal.returns-in-Err
returns-in-Err g c =
    told_end_stopped _ c.args.least c.args.count c.args.s.now c.put_heading.new.s c.take_all_further.new.s _ c.args.label c.args.x.value c.deref-2.result.now c.args.owed.now c.args.ws.now c.args.behind c.args.os.now c.take_all_further.new.os _ c.take_all_further.result c.in-Err.fault (c.deref-2.ensures ∙ (c.in_ok-copy.ensures ∙ c.deref.ensures))
    c.in_ok-put_heading.ensures c.take_all_further.ensures c.in-Err.is

pub returns : goal.returns
returns g c =
    told_end_item c.args.least c.args.count c.args.s.now c.put_heading.new.s c.take_all_further.new.s c.args.label c.args.x.value c.deref-2.result.now c.args.owed.now c.args.ws.now c.args.behind c.args.os.now c.take_all_further.new.os c.take_all_further.result c.in-Ok.field-0 c.missing.result c.end_conditions.result
    (c.deref-2.ensures ∙ (c.in_ok-copy.ensures ∙ c.deref.ensures)) c.in_ok-put_heading.ensures c.take_all_further.ensures c.in-Ok.is c.missing.ensures c.end_conditions.ensures
