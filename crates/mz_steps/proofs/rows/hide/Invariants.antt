use Rattle.std.proofs.Common.{◌≡◌, ◌++◌, drop}
use Rattle.mz_steps.specs.Rows.{hidden_from}
use Rattle.mz_steps.proofs.rows.hide.Given as goal

abbrev pub invariant-loop-v : goal.invariant-loop-v
invariant-loop-v l = l.out ++ hidden_from l.n (drop l._v-index l.vs) ≡ l.initial.out ++ hidden_from l.from l.vs
