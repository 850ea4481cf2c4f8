use Rattle.std.proofs.Common.{◌≡◌, drop, map}
use Rattle.mz_cited.specs.Cited.{members, tree_of, cited_by_numbers}
use Rattle.mz_cited.proofs.CitedLemmas.{behind}
use Rattle.mz_cited.proofs.cited.cited_by_numbers.Given as goal

abbrev pub invariant-loop-next : goal.invariant-loop-next
invariant-loop-next l = behind l.out (cited_by_numbers l.env l.article (map tree_of (drop l.next-index l.next-items))) ≡ cited_by_numbers l.env l.article (members l.trees)
