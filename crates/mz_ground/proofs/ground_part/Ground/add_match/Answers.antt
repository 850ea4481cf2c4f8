use Rattle.std.proofs.Common.{sym, ◌∙◌}
use Rattle.std.proofs.lemmas.Bool.{false≢true}
use Rattle.mz_ground.proofs.InstanceLemmas.{places_within, added_as_read, too_large_as_read}
use Rattle.mz_ground.proofs.ground_part.Ground.add_match.Goals as goal

pub fits-requires-clause-args : goal.fits-requires-clause-args
fits-requires-clause-args c = places_within _ _ _ _ _ _ c.in-Some.is c.as_slice.ensures c.in_ok-places.ensures

pub returns-then-fits : goal.returns-then-fits
returns-then-fits c = added_as_read _ _ _ _ _ _ _ _ c.in-Some.is c.as_slice.ensures c.as_slice-then-fits.ensures c.requires.numbered c.in_ok-places.ensures (c.fits.ensures.0 c.if-fits.true) c.in_ok-add_instance-in-Some.ensures

pub returns-in-Some : goal.returns-in-Some
returns-in-Some c = too_large_as_read _ _ _ _ _ _ c.in-Some.is c.as_slice.ensures c.requires.numbered c.in_ok-places.ensures (λ le. false≢true (sym c.if-fits.false ∙ c.fits.ensures.1 le))
