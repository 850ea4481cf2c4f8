use Rattle.std.proofs.Common.{◌≡◌, take, flat_map}
use Rattle.std.specs.Prelude.{true}
use Rattle.mz_match.specs.Matches.{congruent_formula}
use Rattle.mz_match.proofs.literals.match_listed.Given as goal

abbrev pub invariant-loop-u : goal.invariant-loop-u
invariant-loop-u l = l.out ≡ flat_map (λ u. congruent_formula l.table 0 true l.f true u l.es) (take l.u-index l.u-items)
