use Rattle.std.proofs.Common.{◌≡◌, take}
use Rattle.std.specs.List.{filter}
use Rattle.mz_letters.specs.Letters.{is_other_predicate}
use Rattle.mz_letters.proofs.private.predicates_but.Given as goal

abbrev pub invariant-loop-p : goal.invariant-loop-p
invariant-loop-p l = l.out ≡ filter (is_other_predicate l.name) (take l.p-index l.p-items)
