use Rattle.std.proofs.Common.{◌∙◌}
use Rattle.mz_defs.proofs.BlockLemmas.{told_let, told_heading}
use Rattle.mz_defs.proofs.blocks.take_part.Goals as goal

pub returns-in-Let : goal.returns-in-Let
returns-in-Let g c = told_let c.args.least c.args.s.now c.take_let.new.s c.args.behind c.args.os.now c.args.part.now c.in-Let.t c.take_let.result c.in-Let.is c.take_let.ensures

pub returns-in-Heading : goal.returns-in-Heading
returns-in-Heading g c =
    told_heading c.args.least c.args.s.now c.take_heading.new.s c.args.behind c.args.os.now c.take_heading.new.os c.args.part.now c.in-Heading.heading c.in-Heading.conditions c.as_slice.result.now c.take_heading.result c.in-Heading.is (c.as_slice.ensures.value ∙ c.conditions.view_is) c.take_heading.ensures
