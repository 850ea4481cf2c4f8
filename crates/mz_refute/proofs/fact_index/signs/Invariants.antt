use Rattle.std.proofs.Common.{◌≡◌, ◌<◌, ℕ, length}
use Rattle.std.specs.Prelude.{slice_get, Some}
use Rattle.mz_refute.proofs.fact_index.signs.Given as goal

abbrev pub invariant-loop-k : goal.invariant-loop-k
invariant-loop-k g l = (length l.out.items ≡ l.k) × ((k : ℕ) → k < l.k → slice_get l.out.items k ≡ Some ((g.F.FactSet.view l.f).signed l.positive k))
