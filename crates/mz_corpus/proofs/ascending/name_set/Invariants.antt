use Rattle.std.proofs.Common.{◌≡◌, take}
use Rattle.mz_corpus.specs.Ascending.{sorted_names}
use Rattle.mz_corpus.proofs.ascending.name_set.Given as goal

abbrev pub invariant-loop-name : goal.invariant-loop-name
invariant-loop-name l = l.set.keys ≡ sorted_names (take l.name-index l.names)
