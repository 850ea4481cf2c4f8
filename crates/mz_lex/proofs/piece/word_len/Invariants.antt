use Rattle.std.proofs.Common.{◌≡◌, ◌+◌, ◌-◌, ◌≤◌, length, drop}
use Rattle.std.specs.List.{prefix_len}
use Rattle.mz_base.specs.Words.{is_word_byte}
use Rattle.mz_lex.proofs.piece.word_len.Given as goal

abbrev pub invariant-loop-length : goal.invariant-loop-length
invariant-loop-length l = record {
  within : l.length ≤ length l.bytes;
  so_far : l.length + prefix_len is_word_byte (drop l.length l.bytes) ≡ prefix_len is_word_byte l.bytes;
}

abbrev pub decreases-loop-length : goal.decreases-loop-length
decreases-loop-length l = length l.bytes - l.length
