use Rattle.std.proofs.Common.{length}
use Rattle.mz_walk.specs.Walked.{state}
use Rattle.mz_performing.proofs.SetLemmas.{SettingAll}
use Rattle.mz_performing.proofs.introductions.set_each.Given as goal

abbrev pub invariant-loop-next : goal.invariant-loop-next
invariant-loop-next l = SettingAll l.walker.env.now l.first (state l.ctx l.block l.left) l.rest (state l.initial.ctx l.initial.block l.initial.left) l.trees

abbrev pub decreases-loop-next : goal.decreases-loop-next
decreases-loop-next l = length l.rest
