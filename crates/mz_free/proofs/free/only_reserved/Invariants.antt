use Rattle.std.proofs.Common.{◌≡◌, take}
use Rattle.std.specs.List.{filter}
use Rattle.mz_names.specs.Names.{is_only_reserved}
use Rattle.mz_free.proofs.free.only_reserved.Given as goal

abbrev pub invariant-loop-x : goal.invariant-loop-x
invariant-loop-x l = l.out ≡ filter (is_only_reserved l.least l.ctx) (take l.x-index l.x-items)
