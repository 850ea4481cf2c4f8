use Rattle.std.proofs.Common.{◌≡◌, take, true}
use Rattle.std.specs.List.{list_all}
use Rattle.mz_from.specs.Kept.{type_kept}
use Rattle.mz_from.proofs.kept.types_kept.Given as goal

abbrev pub invariant-loop-ty : goal.invariant-loop-ty
invariant-loop-ty l = list_all (type_kept l.letters) (take l.ty-index l.tys) ≡ true
