use Rattle.std.proofs.Common.{◌≡◌, ◌<◌, ℕ, length}
use Rattle.std.specs.Prelude.{slice_index}
use Rattle.mz_refute.proofs.fact_index.classes.Given as goal

abbrev pub invariant-loop-i : goal.invariant-loop-i
invariant-loop-i g l = (length l.out.items ≡ l.i) × ((k : ℕ) → k < l.i → slice_index l.out.items k ≡ (g.F.FactSet.view l.f).class k)
