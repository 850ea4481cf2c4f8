use Rattle.mz_ground.specs.Making.{IsFilled, IsStart}
use Rattle.mz_ground.proofs.ground.ground.Given as goal

abbrev pub invariant-loop-layer : goal.invariant-loop-layer
invariant-loop-layer l = (IsFilled l.d l.clauses l.g l._layer) × IsStart l.g l._layer l.start
