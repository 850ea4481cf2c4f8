use Rattle.std.proofs.Common.{◌≡◌, map, take}
use Rattle.mz_items.specs.Cases.{term_case_definiens}
use Rattle.mz_items.proofs.cases.term_case_definientia.Given as goal

abbrev pub invariant-loop-x : goal.invariant-loop-x
invariant-loop-x l = l.out.items ≡ map term_case_definiens (take l.x-index l.x-items)
