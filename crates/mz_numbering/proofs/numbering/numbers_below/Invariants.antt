use Rattle.std.proofs.Common.{◌≡◌}
use Rattle.mz_numbering.specs.Numbering.{numbers_from}
use Rattle.mz_numbering.proofs.numbering.numbers_below.Given as goal

abbrev pub invariant-loop-k : goal.invariant-loop-k
invariant-loop-k l = l.out.items ≡ numbers_from 0 l.k
