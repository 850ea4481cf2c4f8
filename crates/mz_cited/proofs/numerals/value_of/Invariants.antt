use Rattle.mz_cited.proofs.NumeralLemmas.{SoFar}
use Rattle.mz_cited.proofs.numerals.value_of.Given as goal

abbrev pub invariant-loop-digit : goal.invariant-loop-digit
invariant-loop-digit l = SoFar l.digits l.digit-index l.n
