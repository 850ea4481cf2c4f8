use Rattle.std.proofs.Common.{◌≡◌, ◌++◌, map, take}
use Rattle.mz_items.specs.Cases.{agree_in_type}
use Rattle.mz_items.proofs.agreements.push_in_type.Given as goal

abbrev pub invariant-loop-x : goal.invariant-loop-x
invariant-loop-x l = l.out ≡ l.initial.out ++ map (agree_in_type l.ty l.c) (take l.x-index l.cases)
