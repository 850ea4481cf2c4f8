use Rattle.std.proofs.Common.{◌∙◌, refl, sym, subst}
use Rattle.mz_corpus.specs.Corpus.{IsCorpus}
use Rattle.mz_desk.specs.Desk.{NoneIsReady, AllAreSettled}
use Rattle.mz_desk.proofs.DeskLemmas.{all_finished}
use Rattle.mz_desk.proofs.desk.Desk.rest.Goals as goal

pub returns-in-None-clause-answers : goal.returns-in-None-clause-answers
returns-in-None-clause-answers g c = λ w.
    let t = c.self.inside.table in
    let law = subst IsCorpus (c.deref.ensures ∙ c.corpus.ensures) c.law.ensures in
    let none = subst NoneIsReady (sym c.self.view_is) c.requires in (
      refl,
      subst AllAreSettled c.self.view_is (all_finished g.C.Semantics.is_outcome g.C.Semantics.answers_name t.corpus law c.self.inside.turns.items t.rows c.self.invariant.0 none c.in-None.ensures),
    )
