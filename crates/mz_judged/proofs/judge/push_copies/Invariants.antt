use Rattle.std.proofs.Common.{◌≡◌, ◌++◌, drop}
use Rattle.mz_judged.proofs.judge.push_copies.Given as goal

abbrev pub invariant-loop-clause : goal.invariant-loop-clause
invariant-loop-clause l = l.out ++ drop l.clause-index l.clauses ≡ l.fn.out ++ l.clauses
