use Rattle.std.proofs.Common.{◌≡◌, ◌++◌, map}
use Rattle.std.specs.Prelude.{take}
use Rattle.mz_env.specs.LetIn.{directed}
use Rattle.mz_env.proofs.directed_names.push_names.Given as goal

abbrev pub invariant-loop-x : goal.invariant-loop-x
invariant-loop-x l = l.out ≡ l.initial.out ++ map (directed l.d.kind) (take l.x-index l.x-items)
