use Rattle.std.proofs.Common.{take}
use Rattle.mz_refute.specs.Entries.{Grown, term_entries}
use Rattle.mz_refute.proofs.build.add_terms.Given as goal

abbrev pub invariant-loop-i : goal.invariant-loop-i
invariant-loop-i l = Grown l.initial.table l.table (term_entries l.classes (take l.i l.classes) (take l.i l.ground.terms))
