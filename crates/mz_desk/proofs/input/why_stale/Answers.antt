use Rattle.std.proofs.Common.{◌≡◌, ◌∙◌, ap, sym, subst}
use Rattle.std.specs.Prelude.{slice_get}
use Rattle.std.specs.List.{filter}
use Rattle.mz_corpus.specs.Corpus.{IsCorpus}
use Rattle.mz_turns.specs.Dependencies.{place_of}
use Rattle.mz_turns.specs.Library.{is_used_by}
use Rattle.mz_turns.proofs.RowLemmas.{same_article}
use Rattle.mz_desk.specs.Difference.{AreRising, number_of_export}
use Rattle.mz_desk.specs.Desk.{IsClaimedFor}
use Rattle.mz_desk.proofs.DifferenceLemmas.{article_texts, article_reach, environment_rising}
use Rattle.mz_desk.proofs.InputLemmas.{strays_from}
use Rattle.mz_desk.proofs.input.why_stale.Goals as goal

pub differing_input-requires-clause-vocabularies : goal.differing_input-requires-clause-vocabularies
differing_input-requires-clause-vocabularies c =
    let k = c.args.table.now.corpus in
    let law = subst IsCorpus (c.deref.ensures ∙ c.corpus.ensures) c.law.ensures in
    let a = c.get.result.now in
    let at = ap (λ z. slice_get z.articles c.place_of-row.result) (sym (c.deref-3.ensures ∙ c.corpus-3.ensures)) ∙ c.get.ensures in
    article_texts k law c.place_of-row.result a at

pub differing_input-requires-clause-reach : goal.differing_input-requires-clause-reach
differing_input-requires-clause-reach c =
    let k = c.args.table.now.corpus in
    let law = subst IsCorpus (c.deref.ensures ∙ c.corpus.ensures) c.law.ensures in
    let a = c.get.result.now in
    let at = ap (λ z. slice_get z.articles c.place_of-row.result) (sym (c.deref-3.ensures ∙ c.corpus-3.ensures)) ∙ c.get.ensures in
    article_reach k law c.place_of-row.result a at

pub differing_input-requires-clause-library : goal.differing_input-requires-clause-library
differing_input-requires-clause-library c =
    let a = c.get.result.now in
    let rows = c.args.table.now.rows in
    subst (λ xs. AreRising number_of_export (filter (is_used_by a) xs)) (sym (c.as_slice.ensures ∙ c.library.ensures)) (environment_rising rows a c.requires.order)

pub returns : goal.returns
returns c =
    let k = c.args.table.now.corpus in
    let rows = c.args.table.now.rows in
    let name = c.args.job.now.name in
    let place = c.place_of-row.ensures.place ∙ (λ i. place_of ((c.articles.ensures ∙ ap (λ z. z.articles) (c.deref-2.ensures ∙ c.corpus-2.ensures)) i) (ap (λ j. j.name) c.job.view_is i)) in
    let a = c.get.result.now in
    let at = ap (λ z. slice_get z.articles c.place_of-row.result) (sym (c.deref-3.ensures ∙ c.corpus-3.ensures)) ∙ c.get.ensures in
    let here = ap (slice_get k.articles) (sym place) ∙ at in
    let x = c.requires.claimed in
    let same : x.article ≡ a = same_article k.articles (place_of k.articles name) x.article a x.is_at here in
    let stands : IsClaimedFor k.articles rows c.args.job.now = record { article = a; is_at = here; named = ap (λ z. z.name) (sym same) ∙ x.named; claimed = x.claimed } in
    strays_from k.articles rows c.args.job.now stands c.differing_input.result (c.differing_input.ensures rows (c.as_slice.ensures ∙ c.library.ensures))
