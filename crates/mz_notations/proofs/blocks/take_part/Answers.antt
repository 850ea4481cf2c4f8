use Rattle.mz_notations.proofs.BlockLemmas.{told_let, told_notation}
use Rattle.mz_notations.proofs.blocks.take_part.Goals as goal

pub returns-in-Let : goal.returns-in-Let
returns-in-Let c = told_let c.args.least c.args.s.now c.take_let.new.s c.args.part.now c.in-Let.t c.take_let.result c.in-Let.is c.take_let.ensures

pub returns-in-Notation : goal.returns-in-Notation
returns-in-Notation c = told_notation c.args.least c.args.s.now c.take_notation.new.s c.args.part.now _ _ _ _ _ _ c.take_notation.result c.in-Notation.is c.take_notation.ensures
