use Rattle.std.proofs.Common.{◌≡◌, false, take}
use Rattle.std.specs.Prelude.{nat_eq}
use Rattle.std.specs.List.{list_any}
use Rattle.mz_context.proofs.gather.has.Given as goal

abbrev pub invariant-loop-n : goal.invariant-loop-n
invariant-loop-n l = list_any (nat_eq l.c) (take l.n-index l.met) ≡ false
