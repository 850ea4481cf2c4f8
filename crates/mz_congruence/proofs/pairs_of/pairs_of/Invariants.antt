use Rattle.std.proofs.Common.{take, Some}
use Rattle.mz_congruence.specs.Pairing.{PairsOf}
use Rattle.mz_congruence.proofs.pairs_of.pairs_of.Given as goal

abbrev pub invariant-loop-k : goal.invariant-loop-k
invariant-loop-k l = PairsOf l.g l.args (take l.k l.ls) (Some l.out)
