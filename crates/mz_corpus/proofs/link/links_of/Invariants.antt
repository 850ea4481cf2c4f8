use Rattle.std.proofs.Common.{◌≡◌, take}
use Rattle.std.specs.Prelude.{map}
use Rattle.mz_corpus.specs.Reach.{link_of_source}
use Rattle.mz_corpus.proofs.link.links_of.Given as goal

abbrev pub invariant-loop-source : goal.invariant-loop-source
invariant-loop-source l = l.items.items ≡ map link_of_source (take l.source-index l.source-items)
