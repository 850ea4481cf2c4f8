use Rattle.std.proofs.Common.{◌≤◌, length, Option}
use Rattle.mz_logic.specs.TermStorage.{size_of, sizes_of}
use Rattle.mz_fits.specs.Matching.{Fixed, AllMatched}
use Rattle.mz_fits.proofs.matches.+matching.Given as goal

abbrev pub decreases-matches : goal.decreases-matches
decreases-matches l = size_of l.formal.now

abbrev pub decreases-all_match : goal.decreases-all_match
decreases-all_match l = sizes_of l.formals.now

abbrev pub invariant-all_match-loop-u : goal.invariant-all_match-loop-u
invariant-all_match-loop-u l =
    (sizes_of l.us ≤ sizes_of l.formals) ×
    ((o : Option Fixed) → AllMatched l.clauses l.constants l.scope l.between l.us l.ts o → AllMatched l.clauses l.constants l.scope l.fn.fixed l.formals l.terms o)

abbrev pub decreases-all_match-loop-u : goal.decreases-all_match-loop-u
decreases-all_match-loop-u l = length l.us
