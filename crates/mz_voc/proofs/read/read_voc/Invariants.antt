use Rattle.std.proofs.Common.{◌≡◌, ◌≤◌, ◌+◌, ℕ, List, length}
use Rattle.std.specs.Option.{is_some}
use Rattle.mz_voc.specs.Spelled.{value_of}
use Rattle.mz_voc.specs.Vocabulary.{is_spelled, AreDistinct}
use Rattle.mz_voc.proofs.ReadLemmas.{SoFar}
use Rattle.mz_voc.proofs.read.read_voc.Given as goal

abbrev pub invariant-loop-rest : goal.invariant-loop-rest
invariant-loop-rest l = record {
  so_far : SoFar l.bytes l.rest l.items.items l.line;
  lines : (spelling : List ℕ) → is_some (value_of l.lines spelling) ≡ is_spelled l.items.items spelling;
  distinct : AreDistinct l.items.items;
  room : l.line + length l.rest ≤ length l.bytes;
}

abbrev pub decreases-loop-rest : goal.decreases-loop-rest
decreases-loop-rest l = length l.rest
