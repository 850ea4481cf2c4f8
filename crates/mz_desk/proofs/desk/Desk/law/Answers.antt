use Rattle.std.proofs.Common.{◌≡◌, ◌∙◌, ℕ, true, length, subst}
use Rattle.mz_axioms.specs.Library.{Sound}
use Rattle.mz_corpus.specs.Corpus.{IsCorpus}
use Rattle.mz_turns.specs.Row.{is_settled, row_at}
use Rattle.mz_turns.specs.Library.{library_of}
use Rattle.mz_turns.specs.Verdicts.{HasVerdict, AreVerdicts}
use Rattle.mz_turns.proofs.NameLemmas.{articles_of}
use Rattle.mz_turns.proofs.SoundLemmas.{replays_sound}
use Rattle.mz_turns.proofs.OrderLemmas.{settled_verdicts}
use Rattle.mz_desk.specs.Desk.{AllAreSettled}
use Rattle.mz_desk.proofs.DeskLemmas.{good}
use Rattle.mz_desk.proofs.desk.Desk.law.Goals as goal

pub returns-clause-whole : goal.returns-clause-whole
returns-clause-whole g c =
    let t = c.self.inside.table in
    let law = subst IsCorpus (c.deref.ensures ∙ c.corpus.ensures) c.law.ensures in
    subst (λ s. length s.rows ≡ length s.corpus.articles) c.self.view_is
    (good g.C.Semantics.is_outcome g.C.Semantics.answers_name t.corpus law c.self.inside.turns.items t.rows c.self.invariant.0).whole

pub returns-clause-sound : goal.returns-clause-sound
returns-clause-sound g c =
    let t = c.self.inside.table in
    let law = subst IsCorpus (c.deref.ensures ∙ c.corpus.ensures) c.law.ensures in
    subst (λ s. Sound (library_of s.rows)) c.self.view_is
    (replays_sound g.C.Semantics.is_outcome g.C.Semantics.answers_name g.C.Semantics.keeps_sound t.corpus.articles (articles_of t.corpus law) c.self.inside.turns.items t.rows c.self.invariant.0)

pub returns-clause-verdict : goal.returns-clause-verdict
returns-clause-verdict g c =
    let t = c.self.inside.table in
    let law = subst IsCorpus (c.deref.ensures ∙ c.corpus.ensures) c.law.ensures in
    subst (λ s. (r : ℕ) → is_settled (row_at s.rows r) ≡ true → HasVerdict g.C.Semantics.is_outcome s.corpus.articles r (row_at s.rows r)) c.self.view_is
    (λ r h. (good g.C.Semantics.is_outcome g.C.Semantics.answers_name t.corpus law c.self.inside.turns.items t.rows c.self.invariant.0).settled r h)

pub returns-clause-all : goal.returns-clause-all
returns-clause-all g c =
    let t = c.self.inside.table in
    let law = subst IsCorpus (c.deref.ensures ∙ c.corpus.ensures) c.law.ensures in
    subst (λ s. AllAreSettled s → AreVerdicts g.C.Semantics.is_outcome s.corpus.articles s.rows) c.self.view_is
    (λ all. settled_verdicts g.C.Semantics.is_outcome g.C.Semantics.answers_name t.corpus.articles (articles_of t.corpus law) c.self.inside.turns.items t.rows c.self.invariant.0 all)
