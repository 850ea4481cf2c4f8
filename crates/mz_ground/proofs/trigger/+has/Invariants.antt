use Rattle.std.proofs.Common.{◌≡◌, take, false}
use Rattle.std.specs.List.{list_any}
use Rattle.mz_ground.specs.Variables.{has_index}
use Rattle.mz_ground.proofs.trigger.+has.Given as goal

abbrev pub invariant-have_index-loop-t : goal.invariant-have_index-loop-t
invariant-have_index-loop-t l = list_any (has_index l.index) (take l.t-index l.t-items) ≡ false
