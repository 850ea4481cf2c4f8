use Rattle.std.proofs.Common.{◌≡◌, map, take}
use Rattle.mz_steps.specs.Changes.{statement_of}
use Rattle.mz_steps.proofs.changes.statements_of.Given as goal

abbrev pub invariant-loop-p : goal.invariant-loop-p
invariant-loop-p l = l.out ≡ map statement_of (take l.p-index l.ps)
