use Rattle.std.proofs.Common.{◌≡◌, ◌<◌, ℕ, true}
use Rattle.std.specs.Prelude.{slice_index, slice_get, Some}
use Rattle.mz_ground.specs.declared.ground_equation.GroundEquation.{GroundEquation}
use Rattle.mz_congruence.specs.FactTable.{flag_at}
use Rattle.mz_congruence.proofs.fact_table.FactTable.equation_clashes.Given as goal

abbrev pub invariant-loop-k : goal.invariant-loop-k
invariant-loop-k l = (k : ℕ) (e : GroundEquation) → k < l.k → slice_get l.self.ground.equations k ≡ Some e → flag_at l.self.disequal.items k ≡ true → slice_index l.self.classes.items e.left ≡ slice_index l.self.classes.items e.right → ⊥
