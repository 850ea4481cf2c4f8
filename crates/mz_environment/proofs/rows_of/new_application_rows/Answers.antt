use Rattle.std.proofs.Common.{sym, ap, ◌∙◌}
use Rattle.mz_logic.specs.TermView.{term_of}
use Rattle.mz_environment.proofs.RowLemmas.{told_row}
use Rattle.mz_environment.proofs.rows_of.new_application_rows.Goals as goal

pub returns-in_ok-rows-in-App : goal.returns-in_ok-rows-in-App
returns-in_ok-rows-in-App c =
    told_row c.args.loci.now c.in-App.s c.in-App.ts c.args.ty.now c.args.t.now c.in_ok-rows-in-App.rows (sym c.t.view_is ∙ ap term_of c.in-App.is) (sym c.in_ok-term_has_loci-in-App.ensures ∙ c.if-not-branch.false) c.in_ok-rows-in-App.ensures
