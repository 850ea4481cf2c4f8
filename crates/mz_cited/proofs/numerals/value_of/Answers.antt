use Rattle.mz_cited.proofs.NumeralLemmas.{told_beyond}
use Rattle.mz_cited.proofs.numerals.value_of.Goals as goal

pub returns-in-None : goal.returns-in-None
returns-in-None c = told_beyond c.args.digits.now c.loop-digit.digit-index c.loop-digit.n c.with_digit.result c.loop-digit-test.true c.loop-digit.invariant c.with_digit.ensures c.in-None.is
