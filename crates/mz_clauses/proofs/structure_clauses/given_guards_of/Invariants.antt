use Rattle.std.proofs.Common.{◌≡◌, ◌++◌, drop}
use Rattle.mz_clauses.specs.StructureClauses.{given_guards}
use Rattle.mz_clauses.proofs.structure_clauses.given_guards_of.Given as goal

abbrev pub invariant-loop-i : goal.invariant-loop-i
invariant-loop-i l = l.out ++ given_guards l.values (drop l.i l.fs) (drop l.i l.zs) ≡ given_guards l.values l.fs l.zs
