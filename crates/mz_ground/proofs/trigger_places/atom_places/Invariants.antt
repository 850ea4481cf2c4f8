use Rattle.mz_ground.specs.Heads.{symbol_hash, AreByHash}
use Rattle.mz_ground.proofs.trigger_places.atom_places.Given as goal

abbrev pub invariant-loop-k : goal.invariant-loop-k
invariant-loop-k l = AreByHash symbol_hash l.atoms l.start l.k l.places
