use Rattle.mz_gen.specs.Made.{AreMadeNames}
use Rattle.mz_gen.proofs.made.made_names.Given as goal

abbrev pub invariant-loop-i : goal.invariant-loop-i
invariant-loop-i l = AreMadeNames l.i l.names
