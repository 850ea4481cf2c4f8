use Rattle.std.proofs.Common.{length}
use Rattle.mz_formulas.proofs.AtomLemmas.{Gives}
use Rattle.mz_formulas.proofs.atoms.read_further.Given as goal

abbrev pub invariant-loop-node : goal.invariant-loop-node
invariant-loop-node l = Gives l.env l.ctx l.least l.u l.rest l.so_far l.nodes l.fn.p

abbrev pub decreases-loop-node : goal.decreases-loop-node
decreases-loop-node l = length l.rest
