use Rattle.std.proofs.Common.{◌≡◌, ap, ◌∙◌, subst, sym}
use Rattle.std.specs.Prelude.{slice_set}
use Rattle.mz_corpus.specs.Taking.{Taking, AreSeen, with_ready}
use Rattle.mz_corpus.proofs.TakingLemmas.{look_seen, look_ready, look_set, on_ok}
use Rattle.mz_corpus.proofs.taking.Taking.look.Goals as goal

pub first_missing-at-requires-clause-within : goal.first_missing-at-requires-clause-within
first_missing-at-requires-clause-within c =
    (look_seen c.args.articles.now c.self.inside.taken c.self.inside.seen.items c.args.row c.index-articles-row.result _ _ (subst (λ s. AreSeen c.args.articles.now s.taken s.seen) (sym c.self.view_is) c.requires.seen) c.requires.row c.index-articles-row.is
    (c.as_slice-names.ensures ∙ ap (λ a. a.dependencies) c.article.view_is) c.index.ensures).within

pub first_missing-at-requires-clause-before : goal.first_missing-at-requires-clause-before
first_missing-at-requires-clause-before c =
    (look_seen c.args.articles.now c.self.inside.taken c.self.inside.seen.items c.args.row c.index-articles-row.result _ _ (subst (λ s. AreSeen c.args.articles.now s.taken s.seen) (sym c.self.view_is) c.requires.seen) c.requires.row c.index-articles-row.is
    (c.as_slice-names.ensures ∙ ap (λ a. a.dependencies) c.article.view_is) c.index.ensures).before

pub returns-clause-ready : goal.returns-clause-ready
returns-clause-ready c =
    on_ok c.add_ready.result _ _
    (λ e.
    e ∙ ap (λ (s : Taking). with_ready s.taken s.ready c.index-articles-row.result) c.mark.ensures
    ∙ look_ready c.args.articles.now c.args.self.now.taken c.args.self.now.ready c.args.row c.index-articles-row.result c.requires.row c.index-articles-row.is)
    c.add_ready.ensures.ready

pub returns-clause-seen : goal.returns-clause-seen
returns-clause-seen c =
    let taken : c.add_ready.new.self.taken ≡ c.args.self.now.taken = c.add_ready.ensures.taken ∙ ap (λ (s : Taking). s.taken) c.mark.ensures in
    let seen : c.add_ready.new.self.seen ≡ slice_set c.args.self.now.seen c.args.row c.first_missing-at.result = c.add_ready.ensures.seen ∙ ap (λ (s : Taking). s.seen) c.mark.ensures in
    subst (λ ts. AreSeen c.args.articles.now ts c.add_ready.new.self.seen) (sym taken)
    (subst (λ ps. AreSeen c.args.articles.now c.args.self.now.taken ps) (sym seen)
    (look_set c.args.articles.now c.args.self.now.taken c.self.inside.taken c.args.self.now.seen c.args.row c.index-articles-row.result c.as_slice-names.result.now c.first_missing-at.result c.requires.seen c.requires.row c.index-articles-row.is
    (c.as_slice-names.ensures ∙ ap (λ a. a.dependencies) c.article.view_is) (ap (λ (s : Taking). s.taken) c.self.view_is) c.first_missing-at.ensures.within c.first_missing-at.ensures.before))
