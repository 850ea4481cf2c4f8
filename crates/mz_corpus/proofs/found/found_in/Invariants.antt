use Rattle.std.proofs.Common.{◌≡◌, take}
use Rattle.std.specs.Prelude.{flat_map}
use Rattle.mz_corpus.specs.Found.{found_list}
use Rattle.mz_corpus.proofs.found.found_in.Given as goal

abbrev pub invariant-loop-name : goal.invariant-loop-name
invariant-loop-name l = l.items.items ≡ flat_map (found_list l.all) (take l.name-index l.name-items)
