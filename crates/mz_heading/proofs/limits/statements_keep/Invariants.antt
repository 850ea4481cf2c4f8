use Rattle.std.proofs.Common.{◌≡◌, true, take}
use Rattle.std.specs.List.{list_all}
use Rattle.mz_sizes.specs.Sizes.{statement_keeps}
use Rattle.mz_heading.proofs.limits.statements_keep.Given as goal

abbrev pub invariant-loop-s : goal.invariant-loop-s
invariant-loop-s l = list_all statement_keeps (take l.s-index l.ss) ≡ true
