use Rattle.std.proofs.Common.{◌≡◌, length}
use Rattle.mz_names.specs.Closing.{with_variables}
use Rattle.mz_choice.specs.Fresh.{Grown}
use Rattle.mz_formulas.proofs.declared.put_each.Given as goal

abbrev pub invariant-loop-v : goal.invariant-loop-v
invariant-loop-v l = (with_variables l.ctx l.rest ≡ with_variables l.initial.ctx l.vs) × Grown l.initial.ctx l.ctx

abbrev pub decreases-loop-v : goal.decreases-loop-v
decreases-loop-v l = length l.rest
