use Rattle.std.proofs.Common.{◌≡◌, drop}
use Rattle.mz_clauses.specs.Groups.{first_trigger}
use Rattle.mz_clauses.proofs.triggers.first_trigger.Given as goal

abbrev pub invariant-loop-literal : goal.invariant-loop-literal
invariant-loop-literal l = first_trigger l.variables (drop l.literal-index l.literal-items) ≡ first_trigger l.variables l.literal-items
