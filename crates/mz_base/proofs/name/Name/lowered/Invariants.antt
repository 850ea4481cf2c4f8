use Rattle.std.proofs.Common.{◌≡◌, not, ◌==◌, filter, take}
use Rattle.mz_base.specs.Bytes.{lowered}
use Rattle.mz_base.proofs.name.Name.lowered.Given as goal

abbrev pub invariant-loop-byte : goal.invariant-loop-byte
invariant-loop-byte l = l.text ≡ lowered (filter (λ b. not (b == 0)) (take l.byte-index l.byte-items))
