use Rattle.std.proofs.Common.{◌≡◌, ◌∙◌, ◌<◌, ◌≤◌, [], length, refl, ap, sym, subst, arith}
use Rattle.std.specs.Prelude.{Some, slice_get, slice_set, false}
use Rattle.std.specs.Arc.{arc_value}
use Rattle.mz_core.specs.declared.verdict.Verdict.TheVariants as verdict
use Rattle.mz_axioms.specs.Library.{added}
use Rattle.mz_turns.specs.Row.{Accepted, is_settled, row_at}
use Rattle.mz_turns.specs.Library.{IsFreshIn}
use Rattle.mz_rows.specs.declared.standing.Standing.TheVariants as standing
use Rattle.mz_rows.proofs.StoredLemmas.{length-stored_entries, stored_put, library_added, room}
use Rattle.mz_rows.proofs.table.Table.accept.Goals as goal

pub put_entry-requires : goal.put_entry-requires
put_entry-requires c =
    let t = c.self.inside in
    let within = subst (λ u. c.args.row < length u.corpus.articles) (sym c.self.view_is) c.requires.within in
    omega (arith, within, length-stored_entries (arc_value t.corpus).articles t.links t.standings.items t.verdicts t.library c.self.invariant)

pub add_export-requires : goal.add_export-requires
add_export-requires c =
    let t = c.self.inside in
    let k = (arc_value t.corpus).articles in
    let within = subst (λ u. c.args.row < length u.corpus.articles) (sym c.self.view_is) c.requires.within in
    let waits = subst (λ u. is_settled (row_at u.rows c.args.row) ≡ false) (sym c.self.view_is) c.requires.unsettled in
    let few = subst (λ z. length z.articles ≤ 512) c.deref.ensures c.law.ensures.few in
    room k t.links t.standings.items t.verdicts t.library c.args.row c.self.invariant few within waits

pub invariant_of-self : goal.invariant_of-self
invariant_of-self c =
    let t = c.self.inside in
    let k = (arc_value t.corpus).articles in
    let x = Accepted (arc_value c.args.export) in
    let within = subst (λ u. c.args.row < length u.corpus.articles) (sym c.self.view_is) c.requires.within in
    let waits = subst (λ u. is_settled (row_at u.rows c.args.row) ≡ false) (sym c.self.view_is) c.requires.unsettled in
    let fresh = subst (λ u. IsFreshIn u.rows (arc_value c.args.export)) (sym c.self.view_is) c.requires.fresh in
    let at = ap (λ z. slice_get z.articles c.args.row) (sym c.deref-2.ensures) ∙ c.get.ensures in
    let told = c.accepted_entry-told.ensures ∙ (λ i. record { name = (c.behind-deref.view_is i).name; verdict = Some verdict.Accepted; counts = c.requires.counted i; faults = [] }) in
    let has = c.add_export.ensures ∙ (ap (λ e. added e t.library) c.requires.same ∙ library_added k t.links t.standings.items t.verdicts t.library c.args.row (arc_value c.args.export) c.self.invariant within waits fresh) in
    (stored_put k t.links t.standings.items c.put.new.standings.items t.verdicts c.put_entry.new.verdicts t.library c.add_export.new.library c.args.row c.get.result.now (standing.Accepted c.args.export) c.accepted_entry-told.result x
    c.self.invariant at refl told c.put.ensures c.put_entry.ensures has).0

pub returns-clause-rows : goal.returns-clause-rows
returns-clause-rows c =
    let t = c.self.inside in
    let k = (arc_value t.corpus).articles in
    let x = Accepted (arc_value c.args.export) in
    let within = subst (λ u. c.args.row < length u.corpus.articles) (sym c.self.view_is) c.requires.within in
    let waits = subst (λ u. is_settled (row_at u.rows c.args.row) ≡ false) (sym c.self.view_is) c.requires.unsettled in
    let fresh = subst (λ u. IsFreshIn u.rows (arc_value c.args.export)) (sym c.self.view_is) c.requires.fresh in
    let at = ap (λ z. slice_get z.articles c.args.row) (sym c.deref-2.ensures) ∙ c.get.ensures in
    let told = c.accepted_entry-told.ensures ∙ (λ i. record { name = (c.behind-deref.view_is i).name; verdict = Some verdict.Accepted; counts = c.requires.counted i; faults = [] }) in
    let has = c.add_export.ensures ∙ (ap (λ e. added e t.library) c.requires.same ∙ library_added k t.links t.standings.items t.verdicts t.library c.args.row (arc_value c.args.export) c.self.invariant within waits fresh) in
    (stored_put k t.links t.standings.items c.put.new.standings.items t.verdicts c.put_entry.new.verdicts t.library c.add_export.new.library c.args.row c.get.result.now (standing.Accepted c.args.export) c.accepted_entry-told.result x
    c.self.invariant at refl told c.put.ensures c.put_entry.ensures has).1
    ∙ ap (λ u. slice_set u.rows c.args.row x) c.self.view_is
