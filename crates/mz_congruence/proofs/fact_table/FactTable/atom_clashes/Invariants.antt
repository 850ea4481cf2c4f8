use Rattle.std.proofs.Common.{◌≡◌, ◌<◌, ℕ, true}
use Rattle.mz_congruence.specs.FactTable.{flag_at}
use Rattle.mz_congruence.proofs.fact_table.FactTable.atom_clashes.Given as goal

abbrev pub invariant-loop-k : goal.invariant-loop-k
invariant-loop-k l = (k : ℕ) → k < l.k → flag_at l.self.positive.items k ≡ true → flag_at l.self.negative.items k ≡ true → ⊥
