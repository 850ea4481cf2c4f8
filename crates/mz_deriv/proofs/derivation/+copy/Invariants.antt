use Rattle.std.proofs.Common.{◌≡◌, take}
use Rattle.mz_deriv.proofs.derivation.+copy.Given as goal

abbrev pub invariant-Derivations::copy-loop-d : goal.invariant-Derivations::copy-loop-d
invariant-Derivations::copy-loop-d l = l.out.items ≡ take l.d-index l.d-items
