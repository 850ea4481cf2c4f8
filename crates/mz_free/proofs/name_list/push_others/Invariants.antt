use Rattle.std.proofs.Common.{◌≡◌, ◌++◌, take}
use Rattle.mz_free.specs.Occurring.{unbound}
use Rattle.mz_free.proofs.name_list.push_others.Given as goal

abbrev pub invariant-loop-x : goal.invariant-loop-x
invariant-loop-x l = l.out ≡ l.initial.out ++ unbound l.bound (take l.x-index l.x-items)
