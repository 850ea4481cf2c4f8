use Rattle.std.proofs.Common.{◌≡◌, take}
use Rattle.std.specs.Prelude.{flat_map}
use Rattle.mz_clauses.specs.Clauses.{item_clauses}
use Rattle.mz_clauses.proofs.clauses_of.clauses_of.Given as goal

abbrev pub invariant-loop-item : goal.invariant-loop-item
invariant-loop-item l = l.out ≡ flat_map item_clauses (take l.item-index l.item-items)
