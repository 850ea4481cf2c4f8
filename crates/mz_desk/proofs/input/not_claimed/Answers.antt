use Rattle.std.proofs.Common.{◌∙◌, ◌<◌, length, ap, sym, arith}
use Rattle.std.proofs.lemmas.Option.{slice_get_within}
use Rattle.mz_turns.specs.Row.{row_at}
use Rattle.mz_turns.specs.Dependencies.{place_of}
use Rattle.mz_turns.proofs.NameLemmas.{from_map, found, placed}
use Rattle.mz_rows.specs.Standing.{state_of}
use Rattle.mz_rows.specs.declared.standing.RowState.TheVariants as state
use Rattle.mz_rows.proofs.StandingLemmas.{state_claimed}
use Rattle.mz_desk.proofs.DeskLemmas.{named_at}
use Rattle.mz_desk.proofs.input.not_claimed.Goals as goal

pub returns-then-row-len : goal.returns-then-row-len
returns-then-row-len c = λ has.
    let k = c.args.table.now.corpus in
    let rows = c.args.table.now.rows in
    let name = c.args.job.now.name in
    let place = c.place_of-row.ensures.place ∙ (λ i. place_of ((c.articles.ensures ∙ ap (λ z. z.articles) (c.deref-2.ensures ∙ c.corpus-2.ensures)) i) (ap (λ j. j.name) c.job.view_is i)) in
    let f = found k.articles name (from_map (λ x. x.name) k.articles name has) in
    let lt = slice_get_within k.articles (place_of k.articles name) f.0 f.1 in
    omega (arith, lt, place, c.if-row-len.true, c.len.ensures.articles)

pub returns-then-is_claimed_by : goal.returns-then-is_claimed_by
returns-then-is_claimed_by c =
    let k = c.args.table.now.corpus in
    let rows = c.args.table.now.rows in
    let name = c.args.job.now.name in
    let place = c.place_of-row.ensures.place ∙ (λ i. place_of ((c.articles.ensures ∙ ap (λ z. z.articles) (c.deref-2.ensures ∙ c.corpus-2.ensures)) i) (ap (λ j. j.name) c.job.view_is i)) in
    let within : place_of k.articles name < length k.articles = omega (arith, place, c.if-row-len.false, c.len.ensures.articles) in
    let f = placed k.articles name within in
    let is = c.is_claimed_by.ensures.0 c.if-is_claimed_by.true in
    record {
      article = f.0;
      is_at = f.1;
      named = f.2;
      claimed = state_claimed (row_at rows (place_of k.articles name)) c.args.job.now.worker (sym (c.state-state.ensures ∙ ap (λ r. state_of (row_at rows r)) place) ∙ (is ∙ ap (λ j. state.Claimed j.worker) c.job.view_is));
    }

pub returns-else-is_claimed_by : goal.returns-else-is_claimed_by
returns-else-is_claimed_by c =
    let k = c.args.table.now.corpus in
    let rows = c.args.table.now.rows in
    let name = c.args.job.now.name in
    let place = c.place_of-row.ensures.place ∙ (λ i. place_of ((c.articles.ensures ∙ ap (λ z. z.articles) (c.deref-2.ensures ∙ c.corpus-2.ensures)) i) (ap (λ j. j.name) c.job.view_is i)) in
    let within : place_of k.articles name < length k.articles = omega (arith, place, c.if-row-len.false, c.len.ensures.articles) in
    let f = placed k.articles name within in (
      named_at k.articles (place_of k.articles name) f.0 name f.1 f.2,
      sym (c.state-state.ensures ∙ ap (λ r. state_of (row_at rows r)) place),
      λ e. let yes = c.is_claimed_by.ensures.1 (e ∙ ap (λ j. state.Claimed j.worker) (sym c.job.view_is)) in absurd cc,
    )
