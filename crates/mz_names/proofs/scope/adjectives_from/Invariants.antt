use Rattle.std.proofs.Common.{◌≡◌, true, take}
use Rattle.std.specs.List.{list_all}
use Rattle.mz_names.specs.Scope.{adjective_from}
use Rattle.mz_names.proofs.scope.adjectives_from.Given as goal

abbrev pub invariant-loop-a : goal.invariant-loop-a
invariant-loop-a l = list_all (adjective_from l.least) (take l.a-index l.a-items) ≡ true
