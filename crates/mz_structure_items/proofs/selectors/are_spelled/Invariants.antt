use Rattle.std.proofs.Common.{◌≡◌, false, take}
use Rattle.std.specs.List.{list_any}
use Rattle.mz_structure_items.specs.Selectors.{has_spelling}
use Rattle.mz_structure_items.proofs.selectors.are_spelled.Given as goal

abbrev pub invariant-loop-other : goal.invariant-loop-other
invariant-loop-other l = list_any (has_spelling l.name) (take l.other-index l.names) ≡ false
