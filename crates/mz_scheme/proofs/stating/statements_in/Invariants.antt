use Rattle.std.proofs.Common.{◌≡◌, map}
use Rattle.mz_steps.specs.Changes.{statement_of}
use Rattle.mz_scheme.proofs.stating.statements_in.Given as goal

abbrev pub invariant-loop-p : goal.invariant-loop-p
invariant-loop-p l = l.out ≡ map statement_of l.yielded
