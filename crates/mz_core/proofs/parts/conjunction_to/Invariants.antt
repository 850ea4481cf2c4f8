use Rattle.std.proofs.Common.{◌≡◌, drop}
use Rattle.mz_core.specs.Parts.{conjunction_to}
use Rattle.mz_core.proofs.parts.conjunction_to.Given as goal

abbrev pub invariant-loop-t : goal.invariant-loop-t
invariant-loop-t l = conjunction_to l.all (drop l.t-index l.ts) ≡ conjunction_to l.s l.ts
