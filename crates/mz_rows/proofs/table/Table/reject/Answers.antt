use Rattle.std.proofs.Common.{◌≡◌, ◌∙◌, ◌<◌, length, refl, ap, sym, subst, arith}
use Rattle.std.specs.Prelude.{slice_get, slice_set, false}
use Rattle.std.specs.Arc.{arc_value}
use Rattle.mz_turns.specs.Row.{Rejected, is_settled, row_at}
use Rattle.mz_rows.specs.declared.standing.Standing.TheVariants as standing
use Rattle.mz_rows.specs.Entries.{entry_of}
use Rattle.mz_rows.proofs.StoredLemmas.{length-stored_entries, stored_put, library_kept}
use Rattle.mz_rows.proofs.table.Table.reject.Goals as goal

pub put_entry-requires : goal.put_entry-requires
put_entry-requires c =
    let t = c.self.inside in
    let within = subst (λ u. c.args.row < length u.corpus.articles) (sym c.self.view_is) c.requires.within in
    omega (arith, within, length-stored_entries (arc_value t.corpus).articles t.links t.standings.items t.verdicts t.library c.self.invariant)

pub invariant_of-self : goal.invariant_of-self
invariant_of-self c =
    let t = c.self.inside in
    let k = (arc_value t.corpus).articles in
    let x = Rejected c.args.faults in
    let waits = subst (λ u. is_settled (row_at u.rows c.args.row) ≡ false) (sym c.self.view_is) c.requires.unsettled in
    let at = ap (λ z. slice_get z.articles c.args.row) (sym c.deref.ensures) ∙ c.get.ensures in
    let told = c.rejected_entry-told.ensures ∙ ap (λ z. entry_of z.name x) c.behind-deref.view_is in
    (stored_put k t.links t.standings.items c.put.new.standings.items t.verdicts c.put_entry.new.verdicts t.library t.library c.args.row c.get.result.now standing.Rejected c.rejected_entry-told.result x
    c.self.invariant at (ap (λ z. Rejected z.faults) c.rejected_entry-told.ensures) told c.put.ensures c.put_entry.ensures (library_kept k t.links t.standings.items t.verdicts t.library c.args.row x c.self.invariant waits refl)).0

pub returns-clause-rows : goal.returns-clause-rows
returns-clause-rows c =
    let t = c.self.inside in
    let k = (arc_value t.corpus).articles in
    let x = Rejected c.args.faults in
    let waits = subst (λ u. is_settled (row_at u.rows c.args.row) ≡ false) (sym c.self.view_is) c.requires.unsettled in
    let at = ap (λ z. slice_get z.articles c.args.row) (sym c.deref.ensures) ∙ c.get.ensures in
    let told = c.rejected_entry-told.ensures ∙ ap (λ z. entry_of z.name x) c.behind-deref.view_is in
    (stored_put k t.links t.standings.items c.put.new.standings.items t.verdicts c.put_entry.new.verdicts t.library t.library c.args.row c.get.result.now standing.Rejected c.rejected_entry-told.result x
    c.self.invariant at (ap (λ z. Rejected z.faults) c.rejected_entry-told.ensures) told c.put.ensures c.put_entry.ensures (library_kept k t.links t.standings.items t.verdicts t.library c.args.row x c.self.invariant waits refl)).1
    ∙ ap (λ u. slice_set u.rows c.args.row x) c.self.view_is
