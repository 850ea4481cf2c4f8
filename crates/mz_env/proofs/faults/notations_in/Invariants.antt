use Rattle.std.proofs.Common.{◌≡◌, true}
use Rattle.std.specs.Prelude.{take}
use Rattle.std.specs.List.{list_all}
use Rattle.mz_env.specs.Symbols.{notation_in}
use Rattle.mz_env.proofs.faults.notations_in.Given as goal

abbrev pub invariant-loop-x : goal.invariant-loop-x
invariant-loop-x l = list_all (notation_in l.articles) (take l.x-index l.x-items) ≡ true
