use Rattle.mz_ground.specs.Instances.{expression_at, MatchedBelow}
use Rattle.mz_ground.proofs.ground_part.Ground.matching.Given as goal

abbrev pub invariant-loop-index : goal.invariant-loop-index
invariant-loop-index l = MatchedBelow l.self l.c (expression_at l.self l.at) l.index l.places
