use Rattle.std.proofs.Common.{◌≡◌, ◌∷◌, [], take, flat_map}
use Rattle.mz_logic.specs.Term.{more, none}
use Rattle.mz_match.specs.Evaluate.{evaluate_at}
use Rattle.mz_match.specs.Matches.{by_rows, match_args}
use Rattle.mz_match.specs.Table.{rows_of}
use Rattle.mz_match.specs.declared.row.Head.TheVariants.{Disequal}
use Rattle.mz_match.proofs.match_terms.match_pairs.Given as goal

abbrev pub invariant-loop-e : goal.invariant-loop-e
invariant-loop-e l = l.out ≡ flat_map (λ e. by_rows (evaluate_at l.table 0 e Disequal [] (more l.t (more l.u none))) e (flat_map (λ r. match_args l.table 0 (more l.t (more l.u none)) r.args.items (e ∷ [])) (rows_of l.table Disequal))) (take l.e-index l.e-items)
