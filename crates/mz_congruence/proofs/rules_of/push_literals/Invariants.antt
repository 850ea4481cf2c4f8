use Rattle.mz_congruence.specs.Pairing.{AddsRules, Below, IsLiteralRule}
use Rattle.mz_congruence.proofs.rules_of.push_literals.Given as goal

abbrev pub invariant-loop-k : goal.invariant-loop-k
invariant-loop-k l = AddsRules l.g (Below (IsLiteralRule l.g l.ls) l.k) l.fn.rules l.rules
