use Rattle.std.proofs.Common.{◌∷◌, [], flat_map}
use Rattle.mz_logic.specs.Term.{terms_of}
use Rattle.mz_match.specs.Evaluate.{evaluate_at}
use Rattle.mz_match.specs.Matches.{by_rows, match_args}
use Rattle.mz_match.specs.Table.{rows_of}
use Rattle.mz_match.proofs.SomeLemmas.{flat_next}
use Rattle.mz_match.proofs.match_terms.match_rows.Goals as goal

pub loop-e-preserved : goal.loop-e-preserved
loop-e-preserved c =
    flat_next (λ e. by_rows (evaluate_at c.args.table.now 0 e c.args.h [] (terms_of c.args.ts.now)) e (flat_map (λ r. match_args c.args.table.now 0 (terms_of c.args.ts.now) r.args.items (e ∷ [])) (rows_of c.args.table.now c.args.h)))
    c.deref-e-items.result.now c.loop-e.e-index c.e-item.result c.loop-e.out c.in_ok-match_rows_at.field-0 c.append.new.self c.loop-e.invariant c.loop-e-test.true c.e-item.is c.in_ok-match_rows_at.ensures c.in_ok-append.ensures
