use Rattle.std.proofs.Common.{◌∙◌, sym, subst}
use Rattle.std.specs.Prelude.{MatchOption}
use Rattle.mz_corpus.specs.Corpus.{IsCorpus}
use Rattle.mz_desk.specs.Desk.{Stands, Strays}
use Rattle.mz_desk.specs.Own.{HasOwnInput}
use Rattle.mz_desk.proofs.OwnLemmas.{own_unless}
use Rattle.mz_desk.proofs.desk.Desk.publish_own.Goals as goal

pub publish_unless-requires : goal.publish_unless-requires
publish_unless-requires g c =
    let t = c.self.inside.table in
    let law = subst IsCorpus (c.deref.ensures ∙ c.corpus.ensures) c.law.ensures in
    let own = subst (λ s. HasOwnInput g.C.Semantics.is_outcome s.corpus.articles c.args.done.job) (sym c.self.view_is) c.requires.own in
    subst (λ s. MatchOption c.not_claimed-why.result (Stands s.corpus.articles s.rows c.args.done.job) (λ w. Strays s.corpus.articles s.rows c.args.done.job w)) c.self.view_is
    (own_unless g.C.Semantics.is_outcome g.C.Semantics.one_outcome g.C.Semantics.answers_name t.corpus law c.self.inside.turns.items t.rows c.self.invariant.0 c.job.result.now c.args.done.job c.job.ensures own c.not_claimed-why.result c.not_claimed-why.ensures)
