use Rattle.std.proofs.Common.{◌≡◌, drop}
use Rattle.mz_logic.specs.Term.{terms_of}
use Rattle.mz_match.specs.Matches.{congruent_args}
use Rattle.mz_match.proofs.congruent.+congruent.Given as goal

abbrev pub invariant-congruent_args-loop-i : goal.invariant-congruent_args-loop-i
invariant-congruent_args-loop-i l = congruent_args l.table l.depth (terms_of l.ts) (terms_of l.us) l.es ≡ congruent_args l.table l.depth (terms_of (drop l.i l.ts-inside.items.items)) (terms_of (drop l.i l.us-inside.items.items)) l.now
