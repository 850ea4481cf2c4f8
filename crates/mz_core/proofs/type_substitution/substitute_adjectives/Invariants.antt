use Rattle.std.proofs.Common.{◌≡◌, map, take}
use Rattle.mz_logic.specs.Substitution.{values_of}
use Rattle.mz_core.specs.TypeSubstitution.{substitute_adjective}
use Rattle.mz_core.proofs.type_substitution.substitute_adjectives.Given as goal

abbrev pub invariant-loop-a : goal.invariant-loop-a
invariant-loop-a l = l.out.items ≡ map (substitute_adjective l.depth (values_of l.beyond l.values)) (take l.a-index l.a-items)
