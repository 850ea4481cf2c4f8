use Rattle.std.proofs.Common.{◌≡◌, ◌∙◌, ◌<◌, ◌+◌, ◌++◌, ◌∷◌, [], true, length, ap, sym, subst, arith}
use Rattle.mz_corpus.specs.Corpus.{IsCorpus}
use Rattle.mz_turns.specs.Machine.{Replays}
use Rattle.mz_turns.specs.declared.turn.Turn.TheVariants.{Take}
use Rattle.mz_rows.specs.Table.{is_ready}
use Rattle.mz_rows.proofs.ReadyLemmas.{ready_is}
use Rattle.mz_desk.proofs.DeskLemmas.{good, taken_turn, sum_by-taken_count, ready_text}
use Rattle.mz_desk.specs.Own.{HasOwnInput}
use Rattle.mz_desk.proofs.OwnLemmas.{own_given}
use Rattle.mz_desk.proofs.desk.Desk.take.Goals as goal

pub job_of-requires-clause-within : goal.job_of-requires-clause-within
job_of-requires-clause-within g c = subst (λ s. c.args.row < length s.corpus.articles) (sym c.self.view_is) c.requires.within

pub job_of-requires-clause-text : goal.job_of-requires-clause-text
job_of-requires-clause-text g c =
    let t = c.self.inside.table in
    let law = subst IsCorpus (c.deref.ensures ∙ c.corpus.ensures) c.law.ensures in
    let g1 = good g.C.Semantics.is_outcome g.C.Semantics.answers_name t.corpus law c.self.inside.turns.items t.rows c.self.invariant.0 in
    let ready = subst (λ s. is_ready s.corpus.articles s.rows c.args.row ≡ true) (sym c.self.view_is) c.requires.ready in
    ready_text g.C.Semantics.is_outcome t.corpus.articles t.rows g1 c.args.row ready

pub job_of-requires-clause-order : goal.job_of-requires-clause-order
job_of-requires-clause-order g c =
    let t = c.self.inside.table in
    let law = subst IsCorpus (c.deref.ensures ∙ c.corpus.ensures) c.law.ensures in
    let g1 = good g.C.Semantics.is_outcome g.C.Semantics.answers_name t.corpus law c.self.inside.turns.items t.rows c.self.invariant.0 in
    g1.in_order

pub claim-requires-clause-waits : goal.claim-requires-clause-waits
claim-requires-clause-waits g c =
    let t = c.self.inside.table in
    let ready = subst (λ s. is_ready s.corpus.articles s.rows c.args.row ≡ true) (sym c.self.view_is) c.requires.ready in
    (ready_is t.corpus.articles t.rows c.args.row ready).waits

pub invariant_of-self-2 : goal.invariant_of-self-2
invariant_of-self-2 g c =
    let t = c.self.inside.table in
    let law = subst IsCorpus (c.deref.ensures ∙ c.corpus.ensures) c.law.ensures in
    let g1 = good g.C.Semantics.is_outcome g.C.Semantics.answers_name t.corpus law c.self.inside.turns.items t.rows c.self.invariant.0 in
    let ready = subst (λ s. is_ready s.corpus.articles s.rows c.args.row ≡ true) (sym c.self.view_is) c.requires.ready in
    let e = c.push_reserved.ensures.items ∙ ap (λ xs. xs ++ Take c.args.row c.args.worker ∷ []) c.reserve.ensures.items in
    let n = sum_by-taken_count t.corpus.articles t.rows c.claim.new.self.rows c.args.row c.args.worker g1.whole ready c.claim.ensures.rows in (
      subst (λ z. Replays g.C.Semantics.is_outcome z.articles c.push_reserved.new.self.items c.claim.new.self.rows) (sym c.claim.ensures.corpus)
          (taken_turn g.C.Semantics.is_outcome t.corpus.articles c.self.inside.turns.items c.push_reserved.new.self.items t.rows c.claim.new.self.rows c.args.row c.args.worker c.self.invariant.0 ready e c.claim.ensures.rows),
      omega (arith, n, c.claims-claims.ensures.count, c.push_reserved.ensures.len, c.push_reserved.ensures.capacity, c.reserve.ensures.len, c.in_ok-reserve.ensures),
    )

pub returns-clause-own : goal.returns-clause-own
returns-clause-own g c =
    let t = c.self.inside.table in
    let law = subst IsCorpus (c.deref.ensures ∙ c.corpus.ensures) c.law.ensures in
    let ready = subst (λ s. is_ready s.corpus.articles s.rows c.args.row ≡ true) (sym c.self.view_is) c.requires.ready in
    subst (λ s. HasOwnInput g.C.Semantics.is_outcome s.corpus.articles c.in_ok-job.job) c.self.view_is
    (own_given g.C.Semantics.is_outcome g.C.Semantics.answers_name t.corpus law c.self.inside.turns.items t.rows c.self.invariant.0 c.args.row c.args.worker c.in_ok-job.job ready c.in_ok-job.ensures)
