use Rattle.std.proofs.Common.{◌≡◌, true}
use Rattle.std.specs.Prelude.{take}
use Rattle.std.specs.List.{list_all}
use Rattle.mz_env.specs.Symbols.{adjective_in}
use Rattle.mz_env.proofs.symbols.adjectives_in.Given as goal

abbrev pub invariant-loop-a : goal.invariant-loop-a
invariant-loop-a l = list_all (adjective_in l.articles) (take l.a-index l.a-items) ≡ true
