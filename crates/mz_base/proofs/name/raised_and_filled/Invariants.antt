use Rattle.std.proofs.Common.{◌≡◌, ◌-◌, take, drop, replicate}
use Rattle.mz_base.specs.Bytes.{raised}
use Rattle.mz_base.proofs.name.raised_and_filled.Given as goal

abbrev pub invariant-loop-i : goal.invariant-loop-i
invariant-loop-i l = record {
  done : take l.i l.bytes ≡ raised (take l.i l.word);
  left : drop l.i l.bytes ≡ replicate (8 - l.i) 0;
}
