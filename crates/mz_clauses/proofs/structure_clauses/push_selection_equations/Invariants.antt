use Rattle.std.proofs.Common.{◌≡◌, ◌++◌, drop}
use Rattle.mz_clauses.specs.StructureClauses.{selection_equations}
use Rattle.mz_clauses.proofs.structure_clauses.push_selection_equations.Given as goal

abbrev pub invariant-loop-i : goal.invariant-loop-i
invariant-loop-i l = l.out ++ selection_equations l.a (drop l.i l.fs) (drop l.i l.zs) ≡ l.initial.out ++ selection_equations l.a l.fs l.zs
