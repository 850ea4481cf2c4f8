use Rattle.std.proofs.Common.{◌≡◌, true}
use Rattle.std.specs.Prelude.{take}
use Rattle.std.specs.List.{list_all}
use Rattle.mz_env.specs.Symbols.{type_in}
use Rattle.mz_env.proofs.symbols.types_in.Given as goal

abbrev pub invariant-loop-ty : goal.invariant-loop-ty
invariant-loop-ty l = list_all (type_in l.articles) (take l.ty-index l.ty-items) ≡ true
