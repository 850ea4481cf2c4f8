use Rattle.std.proofs.Common.{◌≡◌, drop, map}
use Rattle.mz_cited.specs.Cited.{members, tree_of, cites}
use Rattle.mz_cited.proofs.CitedLemmas.{result_behind}
use Rattle.mz_cited.proofs.cited.cite.Given as goal

abbrev pub invariant-loop-next : goal.invariant-loop-next
invariant-loop-next l = result_behind l.out (cites l.env l.ctx (map tree_of (drop l.next-index l.next-items))) ≡ cites l.env l.ctx (members l.trees)
