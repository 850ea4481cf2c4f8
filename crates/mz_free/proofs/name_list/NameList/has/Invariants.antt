use Rattle.std.proofs.Common.{◌≡◌, false, take}
use Rattle.mz_free.specs.Occurring.{is_among}
use Rattle.mz_free.proofs.name_list.NameList.has.Given as goal

abbrev pub invariant-loop-x : goal.invariant-loop-x
invariant-loop-x l = is_among (take l.x-index l.x-items) l.name ≡ false
