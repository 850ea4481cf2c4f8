use Rattle.mz_heading.proofs.HeadingLemmas.{told_put_written}
use Rattle.mz_heading.proofs.modes.put_abbreviation.Goals as goal

pub returns : goal.returns
returns g c =
    told_put_written c.args.least c.args.s.now c.take_item.new.s _ c.new.result _ c.in_ok-item.item.value c.args.ws.now c.args.behind c.args.os.now c.take_item.new.os c.take_item.result c.new.ensures c.in_ok-item.ensures c.take_item.ensures
