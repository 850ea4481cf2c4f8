use Rattle.std.proofs.Common.{◌≡◌, drop}
use Rattle.mz_clauses.specs.SameTypes.{same_adjectives}
use Rattle.mz_clauses.proofs.same_types.same_adjectives.Given as goal

abbrev pub invariant-loop-i : goal.invariant-loop-i
invariant-loop-i l = same_adjectives (drop l.i l.xs) (drop l.i l.ys) ≡ same_adjectives l.xs l.ys
