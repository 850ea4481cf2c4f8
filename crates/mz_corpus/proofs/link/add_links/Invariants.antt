use Rattle.std.proofs.Common.{◌≡◌, take}
use Rattle.std.specs.Prelude.{fold}
use Rattle.mz_corpus.specs.Reach.{with_link}
use Rattle.mz_corpus.proofs.link.add_links.Given as goal

abbrev pub invariant-loop-link : goal.invariant-loop-link
invariant-loop-link l = l.set ≡ fold (with_link l.name) l.initial.set (take l.link-index l.link-items)
