use Rattle.std.proofs.Common.{◌≡◌, take, map}
use Rattle.mz_logic.specs.Substitution.{substitute, values_of}
use Rattle.mz_logic.proofs.substitution.+substitute.Given as goal

abbrev pub invariant-substitute_terms-loop-t : goal.invariant-substitute_terms-loop-t
invariant-substitute_terms-loop-t l = l.out.items ≡ map (substitute l.depth (values_of l.beyond l.values)) (take l.t-index l.t-items)
