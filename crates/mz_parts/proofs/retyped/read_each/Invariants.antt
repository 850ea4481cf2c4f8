use Rattle.std.proofs.Common.{length}
use Rattle.mz_parts.proofs.TermLemmas.{Gives, retyped_in}
use Rattle.mz_parts.proofs.retyped.read_each.Given as goal

abbrev pub invariant-loop-x : goal.invariant-loop-x
invariant-loop-x l = Gives retyped_in l.env l.ctx l.least l.left l.rest l.out l.initial.left l.xs l.initial.out

abbrev pub decreases-loop-x : goal.decreases-loop-x
decreases-loop-x l = length l.rest
