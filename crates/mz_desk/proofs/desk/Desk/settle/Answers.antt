use Rattle.std.proofs.Common.{◌∙◌, ◌<◌, ◌+◌, ◌++◌, ◌∷◌, [], length, ap, sym, subst, arith}
use Rattle.std.specs.Prelude.{slice_set}
use Rattle.std.proofs.lemmas.Option.{slice_get_within}
use Rattle.std.specs.List.{sum_by}
use Rattle.mz_corpus.specs.Corpus.{IsCorpus}
use Rattle.mz_turns.specs.Row.{is_settled, row_at, row_of, claim_weight}
use Rattle.mz_turns.specs.Dependencies.{place_of}
use Rattle.mz_turns.specs.Machine.{Blocks, Replays}
use Rattle.mz_turns.specs.declared.turn.Turn.TheVariants.{Publish}
use Rattle.mz_desk.specs.Found.{outcome_from}
use Rattle.mz_desk.specs.Desk.{Stands}
use Rattle.mz_desk.proofs.DeskLemmas.{good, published_turn, sum_by-published_count, published_fresh}
use Rattle.mz_desk.proofs.desk.Desk.settle.Goals as goal

pub settle_row-requires-clause-within : goal.settle_row-requires-clause-within
settle_row-requires-clause-within g c =
    let t = c.self.inside.table in
    let j = c.done.inside.job in
    let stands = subst (λ d. Stands t.corpus.articles t.rows d.job) (sym c.done.view_is) (subst (λ s. Stands s.corpus.articles s.rows c.args.done.job) (sym c.self.view_is) c.requires) in
    let place = c.place_of-row.ensures.place ∙ (λ i. place_of ((c.articles.ensures ∙ ap (λ z. z.articles) (c.deref-2.ensures ∙ c.corpus-2.ensures)) i) (ap (λ x. x.name) c.job.view_is i)) in
    subst (λ n. n < length t.corpus.articles) (sym place) (slice_get_within t.corpus.articles (place_of t.corpus.articles j.name) stands.claim.article stands.claim.is_at)

pub settle_row-requires-clause-unsettled : goal.settle_row-requires-clause-unsettled
settle_row-requires-clause-unsettled g c =
    let t = c.self.inside.table in
    let j = c.done.inside.job in
    let stands = subst (λ d. Stands t.corpus.articles t.rows d.job) (sym c.done.view_is) (subst (λ s. Stands s.corpus.articles s.rows c.args.done.job) (sym c.self.view_is) c.requires) in
    let place = c.place_of-row.ensures.place ∙ (λ i. place_of ((c.articles.ensures ∙ ap (λ z. z.articles) (c.deref-2.ensures ∙ c.corpus-2.ensures)) i) (ap (λ x. x.name) c.job.view_is i)) in
    ap (λ n. is_settled (row_at t.rows n)) place ∙ ap is_settled stands.claim.claimed

pub settle_row-requires-clause-fresh : goal.settle_row-requires-clause-fresh
settle_row-requires-clause-fresh g c =
    let t = c.self.inside.table in
    let j = c.done.inside.job in
    let stands = subst (λ d. Stands t.corpus.articles t.rows d.job) (sym c.done.view_is) (subst (λ s. Stands s.corpus.articles s.rows c.args.done.job) (sym c.self.view_is) c.requires) in
    let law = subst IsCorpus (c.deref.ensures ∙ c.corpus.ensures) c.law.ensures in
    let g1 = good g.C.Semantics.is_outcome g.C.Semantics.answers_name t.corpus law c.self.inside.turns.items t.rows c.self.invariant.0 in
    published_fresh g.C.Semantics.is_outcome g.C.Semantics.answers_name t.corpus law t.rows g1 j (outcome_from c.done.inside.found) stands c.done.invariant.0

pub invariant_of-self : goal.invariant_of-self
invariant_of-self g c =
    let t = c.self.inside.table in
    let j = c.done.inside.job in
    let stands = subst (λ d. Stands t.corpus.articles t.rows d.job) (sym c.done.view_is) (subst (λ s. Stands s.corpus.articles s.rows c.args.done.job) (sym c.self.view_is) c.requires) in
    let place = c.place_of-row.ensures.place ∙ (λ i. place_of ((c.articles.ensures ∙ ap (λ z. z.articles) (c.deref-2.ensures ∙ c.corpus-2.ensures)) i) (ap (λ x. x.name) c.job.view_is i)) in
    let law = subst IsCorpus (c.deref.ensures ∙ c.corpus.ensures) c.law.ensures in
    let g1 = good g.C.Semantics.is_outcome g.C.Semantics.answers_name t.corpus law c.self.inside.turns.items t.rows c.self.invariant.0 in
    let o = outcome_from c.done.inside.found in
    let blocks = subst (λ n. Blocks t.corpus.articles (slice_set t.rows n (row_of o)) c.settle_row.new.table.rows) place c.settle_row.ensures.rows in
    let e = c.push_reserved.ensures.items ∙ (λ i. c.self.inside.turns.items ++ Publish (place i) (ap (λ x. x.worker) c.job.view_is i) ∷ []) in
    let n = sum_by-published_count t.corpus.articles t.rows j o g1.whole stands in
    let m = c.settle_row.ensures.claims ∙ ap (λ k. sum_by claim_weight (slice_set t.rows k (row_of o))) place in (
      subst (λ z. Replays g.C.Semantics.is_outcome z.articles c.push_reserved.new.self.items c.settle_row.new.table.rows) (sym c.settle_row.ensures.corpus)
          (published_turn g.C.Semantics.is_outcome t.corpus.articles c.self.inside.turns.items c.push_reserved.new.self.items t.rows c.settle_row.new.table.rows j o c.self.invariant.0 stands c.done.invariant.0 blocks e),
      omega (arith, n, m, c.self.invariant.1, c.push_reserved.ensures.len, c.push_reserved.ensures.capacity),
    )
