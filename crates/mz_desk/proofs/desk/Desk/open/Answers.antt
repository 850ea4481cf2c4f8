use Rattle.std.proofs.Common.{◌∙◌, map, ap, sym, subst, arith}
use Rattle.std.specs.Arc.{arc_value}
use Rattle.std.specs.List.{sum_by}
use Rattle.mz_turns.specs.Row.{claim_weight}
use Rattle.mz_turns.specs.Dependencies.{start_row}
use Rattle.mz_turns.specs.Machine.{Blocks}
use Rattle.mz_desk.proofs.DeskLemmas.{started, start_count}
use Rattle.mz_desk.proofs.desk.Desk.open.Goals as goal

pub invariant_of-result : goal.invariant_of-result
invariant_of-result g c =
    let old = c.in_ok-table.table in
    let new = c.settle_blocked.new.self in
    let begun = c.in_ok-table.ensures.rows ∙ ap (λ z. map start_row z.articles) (sym (c.settle_blocked.ensures.corpus ∙ c.in_ok-table.ensures.corpus)) in
    let blocks = subst (λ z. Blocks z.articles old.rows new.rows) (sym c.settle_blocked.ensures.corpus) c.settle_blocked.ensures.rows in (
      started g.C.Semantics.is_outcome new.corpus.articles c.in_ok-turns.turns.items old.rows new.rows c.in_ok-turns.ensures.items begun blocks,
      omega (arith, c.settle_blocked.ensures.claims, ap (sum_by claim_weight) c.in_ok-table.ensures.rows, start_count (arc_value c.args.corpus).articles, c.in_ok-turns.ensures.len, c.in_ok-turns.ensures.capacity),
    )
