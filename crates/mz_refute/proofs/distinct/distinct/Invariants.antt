use Rattle.std.proofs.Common.{take}
use Rattle.mz_refute.specs.Distinct.{AreNoted}
use Rattle.mz_refute.proofs.distinct.distinct.Given as goal

abbrev pub invariant-loop-n : goal.invariant-loop-n
invariant-loop-n l = AreNoted (take l.n-index l.numbers) l.out.items l.seen
