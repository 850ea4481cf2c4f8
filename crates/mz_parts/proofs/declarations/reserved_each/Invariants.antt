use Rattle.std.proofs.Common.{◌≡◌, length}
use Rattle.mz_formulas.specs.Declarations.{behind, reserved_each}
use Rattle.mz_parts.proofs.declarations.reserved_each.Given as goal

abbrev pub invariant-loop-w : goal.invariant-loop-w
invariant-loop-w l = behind l.out (reserved_each l.least l.ctx l.rest) ≡ reserved_each l.least l.ctx l.ws

abbrev pub decreases-loop-w : goal.decreases-loop-w
decreases-loop-w l = length l.rest
