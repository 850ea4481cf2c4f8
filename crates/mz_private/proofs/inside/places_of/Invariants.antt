use Rattle.std.proofs.Common.{◌≡◌, map, take}
use Rattle.mz_private.specs.Private.{place_of}
use Rattle.mz_private.proofs.inside.places_of.Given as goal

abbrev pub invariant-loop-ty : goal.invariant-loop-ty
invariant-loop-ty l = l.out ≡ map place_of (take l.ty-index l.tys)
