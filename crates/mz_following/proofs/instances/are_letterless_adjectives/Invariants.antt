use Rattle.std.proofs.Common.{◌≡◌, take, true}
use Rattle.std.specs.List.{list_all}
use Rattle.mz_following.specs.TypeInstance.{is_letterless_adjective}
use Rattle.mz_following.proofs.instances.are_letterless_adjectives.Given as goal

abbrev pub invariant-loop-a : goal.invariant-loop-a
invariant-loop-a l = list_all is_letterless_adjective (take l.a-index l.a-items) ≡ true
