use Rattle.std.proofs.Common.{◌≡◌, ◌+◌, ◌++◌, drop, length}
use Rattle.mz_clauses.specs.Guards.{loci_guards}
use Rattle.mz_clauses.proofs.guards.loci_guards.Given as goal

abbrev pub invariant-loop-ty : goal.invariant-loop-ty
invariant-loop-ty l = (l.above + l.ty-index ≡ length l.loci + l.by) × (l.out ++ loci_guards l.by (drop l.ty-index l.loci) ≡ loci_guards l.by l.loci)
