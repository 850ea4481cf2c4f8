use Rattle.std.proofs.Common.{◌≡◌, map, take}
use Rattle.mz_core.specs.TypedSequent.{erased_sequent}
use Rattle.mz_core.proofs.typed_sequents.TypedSequents.erased.Given as goal

abbrev pub invariant-loop-x : goal.invariant-loop-x
invariant-loop-x l = l.out.items ≡ map erased_sequent (take l.x-index l.x-items)
