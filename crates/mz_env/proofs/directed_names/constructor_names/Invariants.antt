use Rattle.std.proofs.Common.{◌≡◌}
use Rattle.std.specs.Prelude.{take, flat_map}
use Rattle.mz_env.specs.LetIn.{constructor_name_of}
use Rattle.mz_env.proofs.directed_names.constructor_names.Given as goal

abbrev pub invariant-loop-d : goal.invariant-loop-d
invariant-loop-d l = l.out ≡ flat_map constructor_name_of (take l.d-index l.d-items)
