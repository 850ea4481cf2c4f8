use Rattle.std.proofs.Common.{◌∙◌, ◌<◌, length, ap, sym, subst}
use Rattle.std.specs.Prelude.{slice_get}
use Rattle.mz_turns.specs.Row.{row_at}
use Rattle.mz_rows.specs.Standing.{IsRowOf}
use Rattle.mz_rows.proofs.StandingLemmas.{length-rows_from, row_of_standing}
use Rattle.mz_rows.proofs.table.Table.standing.Goals as goal

pub standing_in-requires : goal.standing_in-requires
standing_in-requires c =
    let t = c.self.inside in
    subst (λ n. c.args.row < n) (ap (λ u. length u.rows) (sym c.self.view_is) ∙ (length-rows_from t.standings.items t.verdicts ∙ ap length (sym c.as_slice.ensures.value))) c.requires

pub returns : goal.returns
returns c =
    let t = c.self.inside in
    subst (λ u. IsRowOf c.standing_in.result.now (row_at u.rows c.args.row)) c.self.view_is
    (row_of_standing t.standings.items t.verdicts c.args.row c.standing_in.result.now (ap (λ xs. slice_get xs c.args.row) (sym c.as_slice.ensures.value) ∙ c.standing_in.ensures))
