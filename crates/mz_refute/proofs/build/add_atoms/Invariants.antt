use Rattle.std.proofs.Common.{take}
use Rattle.mz_refute.specs.Entries.{Grown, atom_entries}
use Rattle.mz_refute.proofs.build.add_atoms.Given as goal

abbrev pub invariant-loop-i : goal.invariant-loop-i
invariant-loop-i l = Grown l.initial.table l.table (atom_entries l.classes (take l.i l.positive) (take l.i l.negative) (take l.i l.ground.atoms))
