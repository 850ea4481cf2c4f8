use Rattle.std.proofs.Common.{◌≡◌, ◌∷◌, [], take, drop, flat_map}
use Rattle.std.specs.Prelude.{if◌then◌else◌}
use Rattle.mz_logic.specs.Term.{terms_of}
use Rattle.mz_match.specs.Evaluate.{evaluate_at}
use Rattle.mz_match.specs.Rows.{has_value}
use Rattle.mz_match.specs.Matches.{by_value, match_args}
use Rattle.mz_match.specs.Table.{rows_of}
use Rattle.mz_match.specs.declared.row.Head.TheVariants.{Functor}
use Rattle.mz_match.proofs.match_terms.+matching.Given as goal

abbrev pub invariant-match_functor-loop-e : goal.invariant-match_functor-loop-e
invariant-match_functor-loop-e l = l.out ≡ flat_map (λ e. by_value (evaluate_at l.table l.depth e (Functor l.s) [] (terms_of l.ts)) l.v e (flat_map (λ r. if has_value l.v r then match_args l.table l.depth (terms_of l.ts) r.args.items (e ∷ []) else []) (rows_of l.table (Functor l.s)))) (take l.e-index l.e-items)

abbrev pub invariant-match_functor_rows-loop-args : goal.invariant-match_functor_rows-loop-args
invariant-match_functor_rows-loop-args l = l.out ≡ flat_map (λ k. match_args l.table l.depth (terms_of l.ts) k.items l.es) (take l.args-index l.args-items)

abbrev pub invariant-match_args-loop-i : goal.invariant-match_args-loop-i
invariant-match_args-loop-i l = match_args l.table l.depth (terms_of l.ts) l.vs l.es ≡ match_args l.table l.depth (terms_of (drop l.i l.ts-inside.items.items)) (drop l.i l.vs) l.now
