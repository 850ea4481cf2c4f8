-- Operands that are neighbours.
use Rattle.std.proofs.Common.{◌≡◌, ◌<◌, ℕ, zero, suc, List, [], ◌∷◌, sym, ap, arith, length, drop, get_or}
use Rattle.mz_grouping.specs.declared.grouping.Part.{Part}

pub drop-at : (k : ℕ) (ps : List Part) (p : Part) → k < length ps → p ≡ get_or ps k p → drop k ps ≡ p ∷ drop (suc k) ps
drop-at k [] p lt e = absurd (omega (arith, lt))
drop-at zero (q ∷ ps) p lt e = ap (λ r. r ∷ ps) (sym e)
drop-at (suc k) (q ∷ ps) p lt e = drop-at k ps p (omega (arith, lt)) e

pub ruleset neighbour_rules = (drop-at)
