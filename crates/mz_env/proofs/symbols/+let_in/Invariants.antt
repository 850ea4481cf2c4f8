use Rattle.std.proofs.Common.{◌≡◌, true}
use Rattle.std.specs.Prelude.{take}
use Rattle.std.specs.List.{list_all}
use Rattle.mz_env.specs.Symbols.{term_in}
use Rattle.mz_env.proofs.symbols.+let_in.Given as goal

abbrev pub invariant-terms_in-loop-t : goal.invariant-terms_in-loop-t
invariant-terms_in-loop-t l = list_all (term_in l.articles) (take l.t-index l.t-items) ≡ true
