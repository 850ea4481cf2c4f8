use Rattle.std.proofs.Common.{◌≡◌, not, ◌==◌, filter, take}
use Rattle.mz_base.proofs.name.Name.text.Given as goal

abbrev pub invariant-loop-byte : goal.invariant-loop-byte
invariant-loop-byte l = l.text ≡ filter (λ b. not (b == 0)) (take l.byte-index l.byte-items)
