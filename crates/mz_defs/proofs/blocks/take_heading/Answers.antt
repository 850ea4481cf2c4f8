use Rattle.mz_defs.proofs.BlockLemmas.{told_predicate, told_attribute, told_structure, told_functor, told_mode, told_abbreviation}
use Rattle.mz_defs.proofs.blocks.take_heading.Goals as goal

pub returns-in-Predicate : goal.returns-in-Predicate
returns-in-Predicate g c = told_predicate c.args.least c.args.s.now c.take_predicate.new.s c.args.behind c.args.os.now c.take_predicate.new.os c.args.t.now c.in-Predicate.t c.args.ws.now c.take_predicate.result c.in-Predicate.is c.take_predicate.ensures

pub returns-in-Structure : goal.returns-in-Structure
returns-in-Structure g c = told_structure c.args.least c.args.s.now c.structure.new.s c.args.behind c.args.os.now c.structure.new.os c.args.t.now c.in-Structure.t c.args.ws.now c.structure.result c.in-Structure.is c.structure.ensures

pub returns-in-Attribute : goal.returns-in-Attribute
returns-in-Attribute g c = told_attribute c.args.least c.args.s.now c.take_attribute.new.s c.args.behind c.args.os.now c.take_attribute.new.os c.args.t.now c.in-Attribute.t c.args.ws.now c.take_attribute.result c.in-Attribute.is c.take_attribute.ensures

pub returns-in-Functor : goal.returns-in-Functor
returns-in-Functor g c = told_functor c.args.least c.args.s.now c.take_functor.new.s c.args.behind c.args.os.now c.take_functor.new.os c.args.t.now c.in-Functor.t c.args.ws.now c.take_functor.result c.in-Functor.is c.take_functor.ensures

pub returns-in-Mode : goal.returns-in-Mode
returns-in-Mode g c = told_mode c.args.least c.args.s.now c.take_mode.new.s c.args.behind c.args.os.now c.take_mode.new.os c.args.t.now c.in-Mode.t c.args.ws.now c.take_mode.result c.in-Mode.is c.take_mode.ensures

pub returns-in-Abbreviation : goal.returns-in-Abbreviation
returns-in-Abbreviation g c = told_abbreviation c.args.least c.args.s.now c.take_abbreviation.new.s c.args.behind c.args.os.now c.take_abbreviation.new.os c.args.t.now c.in-Abbreviation.t c.args.ws.now c.take_abbreviation.result c.in-Abbreviation.is c.take_abbreviation.ensures
