use Rattle.std.proofs.Common.{length}
use Rattle.mz_terms.proofs.PrefixLemmas.{Gives}
use Rattle.mz_terms.proofs.bases.put_prefixes.Given as goal

abbrev pub invariant-loop-last : goal.invariant-loop-last
invariant-loop-last l = Gives l.env l.ctx l.rest l.us l.prefixes l.fn.ts

abbrev pub decreases-loop-last : goal.decreases-loop-last
decreases-loop-last l = length l.rest
