use Rattle.std.proofs.Common.{◌≡◌, true, take}
use Rattle.std.specs.List.{list_all}
use Rattle.mz_names.specs.Scope.{type_from}
use Rattle.mz_names.proofs.scope.types_from.Given as goal

abbrev pub invariant-loop-ty : goal.invariant-loop-ty
invariant-loop-ty l = list_all (type_from l.least) (take l.ty-index l.ty-items) ≡ true
