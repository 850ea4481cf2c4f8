use Rattle.std.proofs.Common.{◌∙◌, map, ap}
use Rattle.std.specs.Arc.{arc_value}
use Rattle.mz_turns.specs.Row.{freed}
use Rattle.mz_rows.specs.Standing.{rows_from}
use Rattle.mz_rows.proofs.StandingLemmas.{rows_from-freed}
use Rattle.mz_rows.proofs.StoredLemmas.{stored_freed}
use Rattle.mz_rows.proofs.table.Table.free_all.Goals as goal

pub invariant_of-self : goal.invariant_of-self
invariant_of-self c =
    let t = c.self.inside in
    stored_freed (arc_value t.corpus).articles t.links t.standings.items c.free_all.new.standings.items t.verdicts t.library c.self.invariant c.free_all.ensures

pub returns-clause-rows : goal.returns-clause-rows
returns-clause-rows c =
    let t = c.self.inside in
    ap (λ xs. rows_from xs t.verdicts) c.free_all.ensures ∙ (rows_from-freed t.standings.items t.verdicts ∙ ap (λ u. map freed u.rows) c.self.view_is)
