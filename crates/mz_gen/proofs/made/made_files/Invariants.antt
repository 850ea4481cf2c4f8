use Rattle.mz_gen.specs.Made.{AreMadeFiles}
use Rattle.mz_gen.proofs.made.made_files.Given as goal

abbrev pub invariant-loop-i : goal.invariant-loop-i
invariant-loop-i l = AreMadeFiles l.i l.files
