use Rattle.std.proofs.Common.{◌≡◌, ◌+◌, drop}
use Rattle.mz_by.specs.declared.by.ByVerdict.{ByVerdict}
use Rattle.mz_by.specs.Verdict.{DecidesAll}
use Rattle.mz_by.proofs.by.decide_all.Given as goal

abbrev pub invariant-loop-d : goal.invariant-loop-d
invariant-loop-d l = (l.number ≡ l.d-index + 1) × ((v : ByVerdict) → DecidesAll l.clauses l.number (drop l.d-index l.d-items) v → DecidesAll l.clauses 1 l.d-items v)
