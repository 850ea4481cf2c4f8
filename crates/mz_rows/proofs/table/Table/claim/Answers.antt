use Rattle.std.proofs.Common.{◌≡◌, ◌∙◌, ◌<◌, length, ap, sym, subst, arith}
use Rattle.std.specs.Prelude.{slice_set}
use Rattle.std.specs.Arc.{arc_value}
use Rattle.mz_turns.specs.Row.{Waiting, Claimed, row_at}
use Rattle.mz_rows.proofs.StoredLemmas.{stored_claim}
use Rattle.mz_rows.proofs.table.Table.claim.Goals as goal

pub put-requires : goal.put-requires
put-requires c =
    let within = subst (λ t. c.args.row < length t.corpus.articles) (sym c.self.view_is) c.requires.within in
    omega (arith, within, c.self.invariant.whole)

pub invariant_of-self : goal.invariant_of-self
invariant_of-self c =
    let t = c.self.inside in
    let waits = subst (λ u. row_at u.rows c.args.row ≡ Waiting) (sym c.self.view_is) c.requires.waits in
    (stored_claim (arc_value t.corpus).articles t.links t.standings.items c.put.new.standings.items t.verdicts t.library c.args.row c.args.worker c.self.invariant waits c.put.ensures).0

pub returns-clause-rows : goal.returns-clause-rows
returns-clause-rows c =
    let t = c.self.inside in
    let waits = subst (λ u. row_at u.rows c.args.row ≡ Waiting) (sym c.self.view_is) c.requires.waits in
    (stored_claim (arc_value t.corpus).articles t.links t.standings.items c.put.new.standings.items t.verdicts t.library c.args.row c.args.worker c.self.invariant waits c.put.ensures).1
    ∙ ap (λ u. slice_set u.rows c.args.row (Claimed c.args.worker)) c.self.view_is
