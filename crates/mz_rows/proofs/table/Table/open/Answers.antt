use Rattle.std.proofs.Common.{◌∙◌, map, ap}
use Rattle.std.specs.Arc.{arc_value}
use Rattle.mz_turns.specs.Dependencies.{start_row, direct_rows}
use Rattle.mz_rows.specs.Entries.{start_entry}
use Rattle.mz_rows.proofs.StoredLemmas.{stored_start, rows_started}
use Rattle.mz_rows.proofs.table.Table.open.Goals as goal

pub invariant_of-result : goal.invariant_of-result
invariant_of-result c =
    stored_start (arc_value c.args.corpus).articles c.in_ok-links.links c.in_ok-standings.standings.items c.in_ok-verdicts.verdicts c.in_ok-library.library
    (c.in_ok-links.ensures ∙ ap (λ z. map (direct_rows z.articles) z.articles) c.deref.ensures)
    (c.in_ok-standings.ensures ∙ ap (map start_row) (c.articles.ensures ∙ ap (λ z. z.articles) c.deref-2.ensures))
    (c.in_ok-verdicts.ensures ∙ ap (map start_entry) (c.articles-2.ensures ∙ ap (λ z. z.articles) c.deref-3.ensures))
    c.in_ok-library.ensures

pub returns-clause-rows : goal.returns-clause-rows
returns-clause-rows c =
    rows_started (arc_value c.args.corpus).articles c.in_ok-standings.standings.items c.in_ok-verdicts.verdicts
    (c.in_ok-standings.ensures ∙ ap (map start_row) (c.articles.ensures ∙ ap (λ z. z.articles) c.deref-2.ensures))
    (c.in_ok-verdicts.ensures ∙ ap (map start_entry) (c.articles-2.ensures ∙ ap (λ z. z.articles) c.deref-3.ensures))
