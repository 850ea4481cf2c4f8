use Rattle.std.proofs.Common.{◌≡◌, take, false}
use Rattle.std.specs.List.{list_any}
use Rattle.mz_following.specs.Places.{is_variable}
use Rattle.mz_following.proofs.places.is_any_variable.Given as goal

abbrev pub invariant-loop-t : goal.invariant-loop-t
invariant-loop-t l = list_any (is_variable l.index) (take l.t-index l.ts) ≡ false
