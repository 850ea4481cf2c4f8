use Rattle.mz_congruence.specs.Pairing.{AddsRules, Below, IsClauseRule}
use Rattle.mz_congruence.proofs.rules_of.push_clauses.Given as goal

abbrev pub invariant-loop-k : goal.invariant-loop-k
invariant-loop-k l = AddsRules l.g (Below (IsClauseRule l.g l.clauses) l.k) l.fn.rules l.rules
