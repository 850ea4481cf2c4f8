use Rattle.mz_thesis.proofs.PartLemmas.{Agree}
use Rattle.mz_thesis.proofs.same_parts.begin_same.Given as goal

abbrev pub invariant-loop-i : goal.invariant-loop-i
invariant-loop-i l = Agree l.ss l.ts l.i
