use Rattle.mz_ground.specs.Heads.{head_hash, AreByHash}
use Rattle.mz_ground.proofs.trigger_places.term_places.Given as goal

abbrev pub invariant-loop-k : goal.invariant-loop-k
invariant-loop-k l = AreByHash head_hash l.terms l.start l.k l.places
