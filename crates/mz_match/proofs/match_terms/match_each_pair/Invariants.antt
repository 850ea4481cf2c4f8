use Rattle.std.proofs.Common.{◌≡◌, take, flat_map}
use Rattle.mz_logic.specs.Term.{more, none}
use Rattle.mz_match.specs.Matches.{match_args}
use Rattle.mz_match.proofs.match_terms.match_each_pair.Given as goal

abbrev pub invariant-loop-r : goal.invariant-loop-r
invariant-loop-r l = l.out ≡ flat_map (λ r. match_args l.table 0 (more l.t (more l.u none)) r.args.items l.es) (take l.r-index l.r-items)
