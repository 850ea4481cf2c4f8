use Rattle.std.proofs.Common.{◌≡◌, map, take}
use Rattle.std.specs.Arc.{arc_value}
use Rattle.std.specs.List.{filter}
use Rattle.mz_turns.specs.Library.{is_used_by}
use Rattle.mz_desk.proofs.input.environment_of.Given as goal

abbrev pub invariant-loop-export : goal.invariant-loop-export
invariant-loop-export l = l.out ≡ filter (is_used_by l.article) (map arc_value (take l.export-index l.library))
