use Rattle.std.proofs.Common.{◌∙◌}
use Rattle.mz_registering.proofs.BlockLemmas.{told_loci, told_cluster}
use Rattle.mz_registering.proofs.block.take_part.Goals as goal

pub returns-in-Let : goal.returns-in-Let
returns-in-Let g c = told_loci c.args.least c.args.s.now c.take_let.new.s c.args.os.now c.args.p.now c.args.behind c.in-Let.t c.take_let.result c.in-Let.is c.take_let.ensures

pub returns-in-Cluster : goal.returns-in-Cluster
returns-in-Cluster g c =
    told_cluster c.args.least c.args.s.now c.take_heading.new.s c.args.os.now c.take_heading.new.os c.args.p.now c.args.behind c.in-Cluster.cluster c.in-Cluster.conditions c.as_slice.result.now c.take_heading.result c.in-Cluster.is (c.as_slice.ensures.value ∙ c.conditions.view_is) c.take_heading.ensures
