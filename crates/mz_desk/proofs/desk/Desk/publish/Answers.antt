use Rattle.std.proofs.Common.{◌∙◌, subst}
use Rattle.std.specs.Prelude.{MatchOption}
use Rattle.mz_corpus.specs.Corpus.{IsCorpus}
use Rattle.mz_desk.specs.Desk.{Stands, Strays}
use Rattle.mz_desk.proofs.DeskLemmas.{good}
use Rattle.mz_desk.proofs.desk.Desk.publish.Goals as goal

pub why_not-why-requires : goal.why_not-why-requires
why_not-why-requires g c =
    let t = c.self.inside.table in
    let law = subst IsCorpus (c.deref.ensures ∙ c.corpus.ensures) c.law.ensures in
    let g1 = good g.C.Semantics.is_outcome g.C.Semantics.answers_name t.corpus law c.self.inside.turns.items t.rows c.self.invariant.0 in
    record { order = g1.in_order }

pub publish_unless-requires : goal.publish_unless-requires
publish_unless-requires g c =
    let t = c.self.inside.table in
    subst (λ s. MatchOption c.why_not-why.result (Stands s.corpus.articles s.rows c.args.done.job) (λ w. Strays s.corpus.articles s.rows c.args.done.job w)) c.self.view_is
    (subst (λ j. MatchOption c.why_not-why.result (Stands t.corpus.articles t.rows j) (λ w. Strays t.corpus.articles t.rows j w)) c.job.ensures c.why_not-why.ensures)
