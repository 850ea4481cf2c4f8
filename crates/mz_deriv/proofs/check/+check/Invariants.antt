use Rattle.std.proofs.Common.{ℕ, ◌<◌, get_or}
use Rattle.mz_logic.specs.Derivation.{Derivation}
use Rattle.mz_logic.specs.Derives.{IsValid}
use Rattle.mz_deriv.proofs.check.+check.Given as goal

abbrev pub invariant-are_valid-loop-d : goal.invariant-are_valid-loop-d
invariant-are_valid-loop-d l = (k : ℕ) (d : Derivation) → k < l.d-index → IsValid l.axioms (get_or l.d-items k d)
