use Rattle.mz_properties.proofs.PropertyLemmas.{told_stray, told_known}
use Rattle.mz_properties.proofs.properties.take_property.Goals as goal

pub returns-in-None : goal.returns-in-None
returns-in-None g c =
    told_stray _ c.args.least c.args.count c.args.x.now c.args.s.now c.args.s.now c.args.t.now c.args.os.now c.args.os.now _ c.stray.result c.in_ok-property_of.ensures c.in-None.is c.stray.ensures

pub returns-in_ok-known-in-Some : goal.returns-in_ok-known-in-Some
returns-in_ok-known-in-Some g c =
    told_known c.args.least c.args.count c.args.x.now c.args.s.now c.take_known.new.s c.args.t.now c.args.os.now c.take_known.new.os _ c.in-Some.p _ c.take_known.result c.in_ok-property_of.ensures c.in-Some.is c.in_ok-known-in-Some.ensures c.take_known.ensures
