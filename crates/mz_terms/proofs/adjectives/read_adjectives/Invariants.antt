use Rattle.std.proofs.Common.{length}
use Rattle.mz_terms.proofs.AdjectiveLemmas.{Gives}
use Rattle.mz_terms.proofs.adjectives.read_adjectives.Given as goal

abbrev pub invariant-loop-node : goal.invariant-loop-node
invariant-loop-node l = Gives l.env l.ctx l.least l.wanted l.subject l.rest l.out l.nodes

abbrev pub decreases-loop-node : goal.decreases-loop-node
decreases-loop-node l = length l.rest
