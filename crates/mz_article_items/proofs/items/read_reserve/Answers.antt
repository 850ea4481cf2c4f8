use Rattle.mz_article_items.proofs.ItemLemmas.{told_unreserved, told_reserved}
use Rattle.mz_article_items.proofs.items.read_reserve.Goals as goal

pub returns-in-Err : goal.returns-in-Err
returns-in-Err c = told_unreserved c.args.s.now c.reserve_segments.new.s _ c.args.os.now c.args.t.now c.reserve_segments.result c.in-Err.fault c.resolved.result c.reserve_segments.ensures.reads c.in-Err.is c.resolved.ensures

pub returns-in-Ok : goal.returns-in-Ok
returns-in-Ok c = told_reserved c.args.s.now c.reserve_segments.new.s _ c.args.os.now c.args.t.now c.reserve_segments.result c.in-Ok.field-0 c.reserve_segments.ensures.reads c.in-Ok.is c.reserve_segments.ensures.same c.end_previous.ensures
