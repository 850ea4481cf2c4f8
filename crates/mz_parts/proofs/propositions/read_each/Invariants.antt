use Rattle.std.proofs.Common.{◌≡◌, length}
use Rattle.mz_parts.proofs.PropositionLemmas.{Gives}
use Rattle.mz_parts.proofs.propositions.read_each.Given as goal

abbrev pub invariant-loop-p : goal.invariant-loop-p
invariant-loop-p l = Gives l.env l.initial.ctx l.least l.left l.rest l.out l.initial.left l.ps l.initial.out × (l.ctx ≡ l.initial.ctx)

abbrev pub decreases-loop-p : goal.decreases-loop-p
decreases-loop-p l = length l.rest
