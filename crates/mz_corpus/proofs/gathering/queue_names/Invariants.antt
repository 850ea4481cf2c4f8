use Rattle.std.proofs.Common.{◌≡◌, take}
use Rattle.mz_corpus.specs.Gather.{queued}
use Rattle.mz_corpus.proofs.gathering.queue_names.Given as goal

abbrev pub invariant-loop-name : goal.invariant-loop-name
invariant-loop-name l = l.queue ≡ queued l.initial.queue (take l.name-index l.name-items)
