use Rattle.std.proofs.Common.{take}
use Rattle.mz_refute.specs.Entries.{Grown, equation_entries}
use Rattle.mz_refute.proofs.build.add_equations.Given as goal

abbrev pub invariant-loop-i : goal.invariant-loop-i
invariant-loop-i l = Grown l.initial.table l.table (equation_entries l.classes (take l.i l.disequal) (take l.i l.ground.equations))
