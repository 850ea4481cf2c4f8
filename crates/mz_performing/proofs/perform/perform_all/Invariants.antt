use Rattle.std.proofs.Common.{length}
use Rattle.mz_performing.proofs.PerformLemmas.{Performing}
use Rattle.mz_performing.proofs.perform.perform_all.Given as goal

abbrev pub invariant-loop-step : goal.invariant-loop-step
invariant-loop-step l = Performing l.env l.first l.ctx l.block l.rest l.initial.ctx l.initial.block l.steps

abbrev pub decreases-loop-step : goal.decreases-loop-step
decreases-loop-step l = length l.rest
