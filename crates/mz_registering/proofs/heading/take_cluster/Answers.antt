use Rattle.std.proofs.Common.{refl}
use Rattle.mz_registering.proofs.HeadingLemmas.{told_kept}
use Rattle.mz_registering.proofs.heading.take_cluster.Goals as goal

pub returns : goal.returns
returns g c =
    told_kept c.args.least c.args.s.now c.take_item.new.s c.args.place c.args.x.now c.args.ws.now c.args.behind c.block_loci.result.now _ _ _ _ _ c.args.os.now c.take_item.new.os c.take_item.result c.block_loci.ensures refl c.in_ok-count.ensures c.in_ok-all_occur.ensures c.if-not-branch.false c.in_ok-item.ensures.1 c.if-not-keeps.false c.in_ok-item.ensures.0 c.take_item.ensures
