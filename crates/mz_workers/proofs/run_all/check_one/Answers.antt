use Rattle.std.proofs.Common.{◌≡◌, sym, subst}
use Rattle.std.specs.Prelude.{Result, Ok, Err, OnOk, IfErr}
use Rattle.mz_desk.specs.Desk.{Stands, Strays, Publishes}
use Rattle.mz_workers.proofs.run_all.check_one.Goals as goal

unless_refused : {X E : Type 0} (r : Result X E) (P : Type 0) (Q : E → Type 0) → OnOk r P → IfErr r Q → ((e : E) → Q e → P) → P
unless_refused (Ok x) P Q h k f = h
unless_refused (Err e) P Q h k f = f e k

pub returns-in-Ok-clause-published : goal.returns-in-Ok-clause-published
returns-in-Ok-clause-published g c = λ stands.
    let old = c.args.desk.now in
    let new = c.publish.new.self in
    let done = c.in-Ok.done in
    let own : done.job ≡ c.args.job = c.in-Ok.ensures.ok in
    let stands2 : Stands old.corpus.articles old.rows done.job = subst (λ j. Stands old.corpus.articles old.rows j) (sym own) stands in (
      done,
      own,
      unless_refused c.publish.result (Publishes old new done) (λ s. (new ≡ old) × (s.done ≡ done) × Strays old.corpus.articles old.rows done.job s.why) c.publish.ensures.ok c.publish.ensures.err
          (λ s refused. absurd (c.answers_law.ensures.stands old.corpus.articles old.rows done.job s.why stands2 refused.2)),
    )
