use Rattle.std.proofs.Common.{◌≡◌, ◌≤◌, ◌+◌, take}
use Rattle.mz_base.specs.Place.{end_from}
use Rattle.mz_base.proofs.place.Place.after_all.Given as goal

abbrev pub invariant-loop-byte : goal.invariant-loop-byte
invariant-loop-byte l = record {
  value : l.now ≡ end_from l.fn.self (take l.byte-index l.bytes);
  line : l.now.line ≤ l.fn.self.line + l.byte-index;
  column : l.now.column ≤ l.fn.self.column + l.byte-index;
}
