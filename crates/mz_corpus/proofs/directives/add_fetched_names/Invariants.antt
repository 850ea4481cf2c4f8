use Rattle.std.proofs.Common.{◌≡◌, take}
use Rattle.std.specs.Prelude.{fold, map}
use Rattle.mz_corpus.specs.Names.{with_fetched_name}
use Rattle.mz_corpus.proofs.directives.add_fetched_names.Given as goal

abbrev pub invariant-loop-placed : goal.invariant-loop-placed
invariant-loop-placed l = l.set ≡ fold with_fetched_name l.initial.set (map (λ placed. placed.name) (take l.placed-index l.placed-items))
