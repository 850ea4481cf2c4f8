use Rattle.std.proofs.Common.{◌≡◌, ◌<◌, ℕ, false}
use Rattle.mz_congruence.specs.InstanceAt.{is_instance_at}
use Rattle.mz_congruence.proofs.lookup.first_term.Given as goal

abbrev pub invariant-loop-i : goal.invariant-loop-i
invariant-loop-i l = (k : ℕ) → k < l.i → is_instance_at l.terms l.args l.t k ≡ false
