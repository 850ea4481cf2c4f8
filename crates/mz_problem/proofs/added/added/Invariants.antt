use Rattle.std.proofs.Common.{take}
use Rattle.mz_problem.specs.Definientia.{AllAdd}
use Rattle.mz_problem.proofs.added.added.Given as goal

abbrev pub invariant-loop-part : goal.invariant-loop-part
invariant-loop-part l = AllAdd l.clauses l.constants l.unfoldings (take l.part-index l.parts) l.out
