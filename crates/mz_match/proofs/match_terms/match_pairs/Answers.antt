use Rattle.std.proofs.Common.{◌∷◌, [], flat_map}
use Rattle.mz_logic.specs.Term.{more, none}
use Rattle.mz_match.specs.Evaluate.{evaluate_at}
use Rattle.mz_match.specs.Matches.{by_rows, match_args}
use Rattle.mz_match.specs.Table.{rows_of}
use Rattle.mz_match.specs.declared.row.Head.TheVariants.{Disequal}
use Rattle.mz_match.proofs.SomeLemmas.{flat_next}
use Rattle.mz_match.proofs.match_terms.match_pairs.Goals as goal

pub loop-e-preserved : goal.loop-e-preserved
loop-e-preserved c =
    flat_next (λ e. by_rows (evaluate_at c.args.table.now 0 e Disequal [] (more c.args.t.now (more c.args.u.now none))) e (flat_map (λ r. match_args c.args.table.now 0 (more c.args.t.now (more c.args.u.now none)) r.args.items (e ∷ [])) (rows_of c.args.table.now Disequal)))
    c.deref-e-items.result.now c.loop-e.e-index c.e-item.result c.loop-e.out c.in_ok-match_pair_at.field-0 c.append.new.self c.loop-e.invariant c.loop-e-test.true c.e-item.is c.in_ok-match_pair_at.ensures c.in_ok-append.ensures
