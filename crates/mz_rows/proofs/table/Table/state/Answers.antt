use Rattle.std.proofs.Common.{◌∙◌, ap}
use Rattle.mz_turns.specs.Row.{row_at}
use Rattle.mz_rows.specs.Standing.{standing_state, standing_at, state_of}
use Rattle.mz_rows.proofs.StandingLemmas.{state_at}
use Rattle.mz_rows.proofs.table.Table.state.Goals as goal

pub returns : goal.returns
returns c =
    c.state_in.ensures
    ∙ (ap (λ xs. standing_state (standing_at xs c.args.row)) c.as_slice.ensures.value
    ∙ (state_at c.self.inside.standings.items c.self.inside.verdicts c.args.row ∙ ap (λ t. state_of (row_at t.rows c.args.row)) c.self.view_is))
