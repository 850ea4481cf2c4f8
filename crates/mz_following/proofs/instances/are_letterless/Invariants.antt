use Rattle.std.proofs.Common.{◌≡◌, take, true}
use Rattle.std.specs.List.{list_all}
use Rattle.mz_following.specs.TypeInstance.{is_letterless}
use Rattle.mz_following.proofs.instances.are_letterless.Given as goal

abbrev pub invariant-loop-ty : goal.invariant-loop-ty
invariant-loop-ty l = list_all is_letterless (take l.ty-index l.tys) ≡ true
