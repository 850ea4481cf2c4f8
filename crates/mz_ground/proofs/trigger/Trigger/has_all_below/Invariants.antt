use Rattle.std.proofs.Common.{◌≡◌, true}
use Rattle.mz_ground.specs.Variables.{has_all_below}
use Rattle.mz_ground.proofs.trigger.Trigger.has_all_below.Given as goal

abbrev pub invariant-loop-index : goal.invariant-loop-index
invariant-loop-index l = has_all_below l.index l.self ≡ true
