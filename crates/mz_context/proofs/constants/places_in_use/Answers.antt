use Rattle.std.proofs.Common.{◌-◌, refl, arith}
use Rattle.mz_context.proofs.PlaceLemmas.{told_some, places_in_use-told_none}
use Rattle.mz_context.proofs.constants.places_in_use.Goals as goal

pub returns-in-Some : goal.returns-in-Some
returns-in-Some c =
    told_some c.args.ks.now c.loop-places.places (c.loop-places.places - 1) c.index-ks-places.result c.in-Some.field-0 refl c.loop-places-test.true c.loop-places.invariant.0 c.index-ks-places.is c.in-Some.is c.loop-places.invariant.1

pub loop-places-preserved : goal.loop-places-preserved
loop-places-preserved c = (
  omega (arith, c.loop-places.invariant.0),
  places_in_use-told_none c.args.ks.now c.loop-places.places (c.loop-places.places - 1) c.index-ks-places.result refl c.loop-places-test.true c.loop-places.invariant.0 c.index-ks-places.is c.in-None.is c.loop-places.invariant.1,
)
