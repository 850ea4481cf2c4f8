use Rattle.std.proofs.Common.{◌∷◌, [], flat_map}
use Rattle.mz_logic.specs.Term.{terms_of}
use Rattle.mz_match.specs.Evaluate.{evaluate_at}
use Rattle.mz_match.specs.Matches.{at_value, match_term, match_args}
use Rattle.mz_match.specs.Table.{rows_of}
use Rattle.mz_match.specs.declared.row.Head.TheVariants.{Functor}
use Rattle.mz_match.proofs.SomeLemmas.{flat_next}
use Rattle.mz_match.proofs.match_terms.match_functor_class.Goals as goal

pub loop-e-preserved : goal.loop-e-preserved
loop-e-preserved c =
    flat_next (λ e. at_value c.args.table.now c.args.depth c.args.t.now (evaluate_at c.args.table.now c.args.depth e (Functor c.args.s) [] (terms_of c.args.us.now)) e (flat_map (λ r. match_term c.args.table.now c.args.depth c.args.t.now r.value (match_args c.args.table.now c.args.depth (terms_of c.args.us.now) r.args.items (e ∷ []))) (rows_of c.args.table.now (Functor c.args.s))))
    c.deref-e-items.result.now c.loop-e.e-index c.e-item.result c.loop-e.out c.in_ok-match_class_at.field-0 c.append.new.self c.loop-e.invariant c.loop-e-test.true c.e-item.is c.in_ok-match_class_at.ensures c.in_ok-append.ensures
