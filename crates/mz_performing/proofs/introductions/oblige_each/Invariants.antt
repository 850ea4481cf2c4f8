use Rattle.std.proofs.Common.{length}
use Rattle.mz_performing.proofs.EachLemmas.{Obliging}
use Rattle.mz_performing.proofs.introductions.oblige_each.Given as goal

abbrev pub invariant-loop-s : goal.invariant-loop-s
invariant-loop-s l = Obliging l.walker.env.now l.walker.at l.ctx l.given l.place l.rest l.ss l.os l.initial.os

abbrev pub decreases-loop-s : goal.decreases-loop-s
decreases-loop-s l = length l.rest
