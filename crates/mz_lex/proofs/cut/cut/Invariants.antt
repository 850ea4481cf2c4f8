use Rattle.std.proofs.Common.{◌≤◌, ◌+◌, length}
use Rattle.mz_lex.specs.Part.{symbols_of, mode_of}
use Rattle.mz_lex.proofs.CutLemmas.{SoFar}
use Rattle.mz_lex.proofs.cut.cut.Given as goal

abbrev pub invariant-loop-rest : goal.invariant-loop-rest
invariant-loop-rest l = record {
  so_far : SoFar (symbols_of l.fn.part l.built_in l.later) (mode_of l.fn.part l.later) l.bytes l.items.items l.place (symbols_of l.here l.built_in l.later) (mode_of l.here l.later) l.rest;
  line : l.place.line + length l.rest ≤ length l.bytes + 1;
  column : l.place.column + length l.rest ≤ length l.bytes + 1;
}

abbrev pub decreases-loop-rest : goal.decreases-loop-rest
decreases-loop-rest l = length l.rest
