use Rattle.std.proofs.Common.{◌≡◌, length}
use Rattle.mz_voc.specs.Symbol.{has_double_colon}
use Rattle.mz_voc.proofs.symbol.has_double_colon.Given as goal

abbrev pub invariant-loop-first : goal.invariant-loop-first
invariant-loop-first l = has_double_colon l.rest ≡ has_double_colon l.bytes

abbrev pub decreases-loop-first : goal.decreases-loop-first
decreases-loop-first l = length l.rest
