use Rattle.std.proofs.Common.{length}
use Rattle.std.specs.Prelude.{◌↔◌}
use Rattle.mz_types.specs.Structures.{FieldsFit}
use Rattle.mz_types.proofs.structure_types.fields_fit.Given as goal

abbrev pub invariant-loop-f : goal.invariant-loop-f
invariant-loop-f l = FieldsFit l.clauses l.constants l.values l.fs l.ts ↔ FieldsFit l.clauses l.constants l.values l.fields l.zs

abbrev pub decreases-loop-f : goal.decreases-loop-f
decreases-loop-f l = length l.fs
