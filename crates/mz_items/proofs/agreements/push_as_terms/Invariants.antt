use Rattle.std.proofs.Common.{◌≡◌, ◌++◌, map, take}
use Rattle.mz_items.specs.Cases.{agree_as_terms}
use Rattle.mz_items.proofs.agreements.push_as_terms.Given as goal

abbrev pub invariant-loop-x : goal.invariant-loop-x
invariant-loop-x l = l.out ≡ l.initial.out ++ map (agree_as_terms l.c) (take l.x-index l.cases)
