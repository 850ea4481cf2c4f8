use Rattle.std.proofs.Common.{◌∙◌, ◌<◌, length, ap, subst, arith}
use Rattle.std.proofs.lemmas.Option.{slice_get_within}
use Rattle.mz_corpus.specs.Corpus.{IsCorpus}
use Rattle.mz_turns.specs.Row.{row_at}
use Rattle.mz_turns.specs.Dependencies.{place_of}
use Rattle.mz_turns.proofs.NameLemmas.{articles_of, placed, same_place}
use Rattle.mz_desk.specs.Look.{Tells}
use Rattle.mz_desk.proofs.DeskLemmas.{named_at}
use Rattle.mz_desk.proofs.look.look_in.Goals as goal

pub returns-then-row-len-clause-row : goal.returns-then-row-len-clause-row
returns-then-row-len-clause-row c = λ r a at named.
    let k = c.args.table.now.corpus in
    let rows = c.args.table.now.rows in
    let name = c.args.name.now in
    let law = subst IsCorpus (c.deref.ensures ∙ c.corpus.ensures) c.law.ensures in
    let place = c.place_of-row.ensures.place ∙ ap (λ xs. place_of xs name) (c.articles.ensures ∙ ap (λ z. z.articles) (c.deref-2.ensures ∙ c.corpus-2.ensures)) in
    subst (λ q. Tells (row_at rows q) c.look_of.result) (place ∙ same_place k.articles (articles_of k law) r a name at named) (c.look_of.ensures (row_at rows c.place_of-row.result) c.standing.ensures)

pub returns-then-row-len-clause-unknown : goal.returns-then-row-len-clause-unknown
returns-then-row-len-clause-unknown c = λ free.
    let k = c.args.table.now.corpus in
    let name = c.args.name.now in
    let place = c.place_of-row.ensures.place ∙ ap (λ xs. place_of xs name) (c.articles.ensures ∙ ap (λ z. z.articles) (c.deref-2.ensures ∙ c.corpus-2.ensures)) in
    let within : place_of k.articles name < length k.articles = omega (arith, place, c.if-row-len.true, c.len.ensures.articles) in
    let f = placed k.articles name within in
    absurd (free (named_at k.articles (place_of k.articles name) f.0 name f.1 f.2))

pub returns-else-row-len-clause-row : goal.returns-else-row-len-clause-row
returns-else-row-len-clause-row c = λ r a at named.
    let k = c.args.table.now.corpus in
    let name = c.args.name.now in
    let law = subst IsCorpus (c.deref.ensures ∙ c.corpus.ensures) c.law.ensures in
    let place = c.place_of-row.ensures.place ∙ ap (λ xs. place_of xs name) (c.articles.ensures ∙ ap (λ z. z.articles) (c.deref-2.ensures ∙ c.corpus-2.ensures)) in
    let same = same_place k.articles (articles_of k law) r a name at named in
    let lt = slice_get_within k.articles r a at in
    absurd (omega (arith, lt, same, place, c.if-row-len.false, c.len.ensures.articles))
