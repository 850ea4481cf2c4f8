use Rattle.std.proofs.Common.{◌∙◌, ◌<◌, length, ap, sym, subst, arith}
use Rattle.std.specs.Prelude.{slice_get}
use Rattle.mz_corpus.specs.Corpus.{IsCorpus}
use Rattle.mz_rows.proofs.ReadyLemmas.{bad_within, blocked_by}
use Rattle.mz_rows.proofs.table.Table.first_blocked.Goals as goal

pub get-requires : goal.get-requires
get-requires c =
    let law = subst IsCorpus (c.deref.ensures ∙ c.corpus.ensures) c.law.ensures in
    subst (λ z. c.in-Some.other < length z.articles) (sym (c.deref-in-Some.ensures ∙ c.corpus-in-Some.ensures))
    (bad_within c.args.self.now.corpus law c.args.self.now.rows c.loop-row.row c.in-Some.other (sym c.in-Some.ensures))

pub returns-in-Some : goal.returns-in-Some
returns-in-Some c =
    let t = c.args.self.now in
    let at = ap (λ z. slice_get z.articles c.in-Some.other) (sym (c.deref-in-Some.ensures ∙ c.corpus-in-Some.ensures)) ∙ c.get.ensures in (
      omega (arith, c.loop-row-test.true, c.len-row-end.ensures.articles),
      omega (arith, c.loop-row-test.true, c.len-row-end.ensures.rows),
      blocked_by t.corpus.articles t.rows c.loop-row.row c.in-Some.other c.get.result.now c.behind-deref.inside.name (sym c.in-Some.ensures) at (sym (ap (λ z. z.name) c.behind-deref.view_is)),
    )
