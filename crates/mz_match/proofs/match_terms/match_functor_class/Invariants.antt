use Rattle.std.proofs.Common.{◌≡◌, ◌∷◌, [], take, flat_map}
use Rattle.mz_logic.specs.Term.{terms_of}
use Rattle.mz_match.specs.Evaluate.{evaluate_at}
use Rattle.mz_match.specs.Matches.{at_value, match_term, match_args}
use Rattle.mz_match.specs.Table.{rows_of}
use Rattle.mz_match.specs.declared.row.Head.TheVariants.{Functor}
use Rattle.mz_match.proofs.match_terms.match_functor_class.Given as goal

abbrev pub invariant-loop-e : goal.invariant-loop-e
invariant-loop-e l = l.out ≡ flat_map (λ e. at_value l.table l.depth l.t (evaluate_at l.table l.depth e (Functor l.s) [] (terms_of l.us)) e (flat_map (λ r. match_term l.table l.depth l.t r.value (match_args l.table l.depth (terms_of l.us) r.args.items (e ∷ []))) (rows_of l.table (Functor l.s)))) (take l.e-index l.e-items)
