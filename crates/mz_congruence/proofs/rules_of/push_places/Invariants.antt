use Rattle.std.proofs.Common.{take}
use Rattle.mz_congruence.specs.Pairing.{AddsRules, Among, IsPlaceRule}
use Rattle.mz_congruence.proofs.rules_of.push_places.Given as goal

abbrev pub invariant-loop-k : goal.invariant-loop-k
invariant-loop-k l = AddsRules l.g (Among (IsPlaceRule l.g l.c) (take l.k-index l.places)) l.fn.rules l.rules
