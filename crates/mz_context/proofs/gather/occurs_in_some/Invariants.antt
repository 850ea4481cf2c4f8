use Rattle.std.proofs.Common.{◌≡◌, false, take}
use Rattle.std.specs.List.{list_any}
use Rattle.mz_context.specs.Gather.{occurs_in_constant}
use Rattle.mz_context.proofs.gather.occurs_in_some.Given as goal

abbrev pub invariant-loop-d : goal.invariant-loop-d
invariant-loop-d l = list_any (occurs_in_constant l.constants l.c) (take l.d-index l.ds) ≡ false
