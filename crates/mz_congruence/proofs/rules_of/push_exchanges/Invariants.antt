use Rattle.mz_congruence.specs.Pairing.{AddsRules, Below, IsExchangeRule}
use Rattle.mz_congruence.proofs.rules_of.push_exchanges.Given as goal

abbrev pub invariant-loop-k : goal.invariant-loop-k
invariant-loop-k l = AddsRules l.g (Below (IsExchangeRule l.g) l.k) l.fn.rules l.rules
