use Rattle.std.proofs.Common.{◌≡◌, take}
use Rattle.mz_names.specs.Closing.{with_variables}
use Rattle.mz_names.proofs.quantifiers.put_variables.Given as goal

abbrev pub invariant-loop-v : goal.invariant-loop-v
invariant-loop-v l = l.ctx ≡ with_variables l.initial.ctx (take l.v-index l.vs)
