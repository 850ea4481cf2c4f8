use Rattle.std.proofs.Common.{◌∷◌, [], arith, length, sym, ap, flat_map, ◌∙◌}
use Rattle.std.specs.Prelude.{if◌then◌else◌}
use Rattle.mz_logic.specs.Term.{terms_of}
use Rattle.mz_match.specs.Evaluate.{evaluate_at}
use Rattle.mz_match.specs.Matches.{by_value, match_args}
use Rattle.mz_match.specs.Rows.{has_value}
use Rattle.mz_match.specs.Table.{rows_of}
use Rattle.mz_match.specs.declared.row.Head.TheVariants.{Functor}
use Rattle.mz_match.proofs.SomeLemmas.{flat_next}
use Rattle.mz_match.proofs.ArgsLemmas.{match_args-no_values}
use Rattle.mz_match.proofs.ByClassLemmas.{told_over}
use Rattle.mz_match.proofs.match_terms.+matching.Goals as goal

pub match_args-returns-then-i-vs : goal.match_args-returns-then-i-vs
match_args-returns-then-i-vs t c = c.new.ensures ∙ sym (match_args-no_values c.args.table.now c.args.depth c.args.ts.now c.args.vs.now c.args.es.now (λ e. omega (arith, ap length c.ts.view_is)))

pub match_args-returns-then-vs-len : goal.match_args-returns-then-vs-len
match_args-returns-then-vs-len t c = c.new-then-vs-len.ensures ∙ sym (match_args-no_values c.args.table.now c.args.depth c.args.ts.now c.args.vs.now c.args.es.now (λ e. omega (arith, ap length c.ts.view_is)))

pub match_functor-loop-e-preserved : goal.match_functor-loop-e-preserved
match_functor-loop-e-preserved t c =
    flat_next (λ e. by_value (evaluate_at c.args.table.now c.args.depth e (Functor c.args.s) [] (terms_of c.args.ts.now)) c.args.v e (flat_map (λ r. if has_value c.args.v r then match_args c.args.table.now c.args.depth (terms_of c.args.ts.now) r.args.items (e ∷ []) else []) (rows_of c.args.table.now (Functor c.args.s))))
    c.deref-e-items.result.now c.loop-e.e-index c.e-item.result c.loop-e.out c.in_ok-match_functor_at.field-0 c.append.new.self c.loop-e.invariant c.loop-e-test.true c.e-item.is c.in_ok-match_functor_at.ensures c.in_ok-append.ensures

pub match_functor_rows-returns : goal.match_functor_rows-returns
match_functor_rows-returns t c =
    told_over (λ vs. match_args c.args.table.now c.args.depth (terms_of c.args.ts.now) vs c.args.es.now) c.args.v (rows_of c.args.table.now (Functor c.args.s)) c.args_with-args-items.result.now c.loop-args.args-index c.loop-args.out
    c.loop-args.invariant (omega (arith, c.loop-args-test.false)) c.args_with-args-items.ensures
