use Rattle.std.proofs.Common.{◌≡◌}
use Rattle.std.specs.Prelude.{take, flat_map}
use Rattle.mz_env.specs.LetIn.{directive_names}
use Rattle.mz_env.proofs.directed_names.directed_names.Given as goal

abbrev pub invariant-loop-d : goal.invariant-loop-d
invariant-loop-d l = l.out ≡ flat_map directive_names (take l.d-index l.d-items)
