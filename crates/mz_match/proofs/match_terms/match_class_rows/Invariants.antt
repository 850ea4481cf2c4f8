use Rattle.std.proofs.Common.{◌≡◌, take, flat_map}
use Rattle.mz_logic.specs.Term.{terms_of}
use Rattle.mz_match.specs.Matches.{match_term, match_args}
use Rattle.mz_match.proofs.match_terms.match_class_rows.Given as goal

abbrev pub invariant-loop-r : goal.invariant-loop-r
invariant-loop-r l = l.out ≡ flat_map (λ r. match_term l.table l.depth l.t r.value (match_args l.table l.depth (terms_of l.us) r.args.items l.es)) (take l.r-index l.r-items)
