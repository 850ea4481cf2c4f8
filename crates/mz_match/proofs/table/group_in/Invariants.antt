use Rattle.std.proofs.Common.{◌≡◌, drop}
use Rattle.mz_match.specs.Table.{group_of}
use Rattle.mz_match.proofs.table.group_in.Given as goal

abbrev pub invariant-loop-g : goal.invariant-loop-g
invariant-loop-g l = group_of l.head l.groups ≡ group_of l.head (drop l.g-index l.groups)
