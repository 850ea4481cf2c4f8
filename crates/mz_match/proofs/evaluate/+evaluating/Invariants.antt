use Rattle.std.proofs.Common.{◌≡◌, [], drop}
use Rattle.mz_logic.specs.Term.{terms_of}
use Rattle.mz_match.specs.Evaluate.{evaluate_at}
use Rattle.mz_match.proofs.evaluate.+evaluating.Given as goal

abbrev pub invariant-evaluate_at-loop-t : goal.invariant-evaluate_at-loop-t
invariant-evaluate_at-loop-t l = evaluate_at l.table l.depth l.e l.head [] (terms_of l.ts) ≡ evaluate_at l.table l.depth l.e l.head l.classes.items (terms_of (drop l.t-index l.t-items))
