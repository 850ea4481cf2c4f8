use Rattle.std.proofs.Common.{◌≡◌, true, take}
use Rattle.std.specs.List.{list_all}
use Rattle.mz_structure_items.specs.Selectors.{is_field}
use Rattle.mz_structure_items.proofs.selectors.are_fields.Given as goal

abbrev pub invariant-loop-x : goal.invariant-loop-x
invariant-loop-x l = list_all (is_field l.names l.inherited) (take l.x-index l.xs) ≡ true
