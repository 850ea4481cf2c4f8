use Rattle.std.proofs.Common.{◌≡◌, ◌+◌, ◌*◌, drop, map}
use Rattle.mz_logic.specs.Order.{terms_cmp}
use Rattle.mz_ground.specs.Ground.{term_at}
use Rattle.mz_ground.specs.Table.{entry_terms}
use Rattle.mz_numbering.proofs.compare.+compare.Given as goal

abbrev pub decreases-compare_terms_at : goal.decreases-compare_terms_at
decreases-compare_terms_at l = 2 * l.p + 1

abbrev pub decreases-compare_places : goal.decreases-compare_places
decreases-compare_places l = 2 * l.bound

abbrev pub invariant-compare_places-loop-i : goal.invariant-compare_places-loop-i
invariant-compare_places-loop-i l =
    terms_cmp (map (term_at (entry_terms l.terms)) l.ps) (map (term_at (entry_terms l.terms)) l.qs) ≡ terms_cmp (drop l.i (map (term_at (entry_terms l.terms)) l.ps)) (drop l.i (map (term_at (entry_terms l.terms)) l.qs))
