use Rattle.std.proofs.Common.{◌≡◌, ◌∙◌, ℕ, List, Option, ap, subst, sym, length, Some}
use Rattle.std.specs.Option.{option_map}
use Rattle.std.specs.Arc.{arc_value}
use Rattle.std.proofs.lemmas.Result.{err_from_is_err_and}
use Rattle.mz_corpus.specs.Directives.{vocabulary_names_of}
use Rattle.mz_corpus.specs.Failed.{Gave, ComesTo}
use Rattle.mz_corpus.specs.Gather.{Gathered, OnRead, next_name}
use Rattle.mz_corpus.specs.Orderly.{IsOrderly}
use Rattle.mz_corpus.specs.Rise.{IsPaid}
use Rattle.mz_corpus.proofs.FailedLemmas.{Gave-on, text_fails, vocabulary_fails}
use Rattle.mz_corpus.proofs.GatherLemmas.{missing_source, read_same}
use Rattle.mz_corpus.proofs.OrderlyLemmas.{IsOrderly-taken}
use Rattle.mz_corpus.proofs.RiseLemmas.{take_paid, source_paid, source_refused}
use Rattle.mz_corpus.proofs.gathering.Gathering.take.Goals as goal

pub returns-in-Ok-clause-kept : goal.returns-in-Ok-clause-kept
returns-in-Ok-clause-kept g c =
    subst (λ s. IsOrderly s → next_name s ≡ Some c.args.name → IsOrderly c.add_source.new.self) c.self.view_is
    (IsOrderly-taken _ _ _ _ c.in_ok-fetch_vocabularies.ensures.queue c.in_ok-fetch_vocabularies.ensures.sources c.in_ok-fetch_vocabularies.ensures.apart c.in-Ok.ensures.added
    (missing_source _ _ _ _ _ _ _ c.in_ok-text-2.ensures c.in_ok-head.ensures (c.as_slice-2.ensures.value ∙ c.head.view_is) (c.as_slice.ensures.value ∙ c.head.view_is) c.in_ok-dependencies.ensures c.in_ok-vocabulary_names.ensures))

pub returns-in_err-fetch_vocabularies-clause-paid : goal.returns-in_err-fetch_vocabularies-clause-paid
returns-in_err-fetch_vocabularies-clause-paid g c = λ names start h.
    let p = err_from_is_err_and c.from_residual-in_err-fetch_vocabularies.result c.from_residual-in_err-fetch_vocabularies.ensures.1 in
    rw (p.1, p.2)
    (c.in_err-fetch_vocabularies.ensures.paid names start (length c.in_ok-dependencies.dependencies)
    (take_paid names start (g.S.Shelf.amount c.args.shelf.now) (g.S.Shelf.amount c.fetched.new.shelf) _ c.in_ok-text.text c.in_ok-text.bytes _ _ _ c.in_ok-dependencies.dependencies c.in_ok-vocabulary_names.vocabulary_names
    (subst (λ s. IsPaid names start (g.S.Shelf.amount c.args.shelf.now) 0 s) (sym c.self.view_is) h) c.in_ok-text.ensures.charged c.in_ok-text.ensures.amount.stands c.in_ok-head.ensures (c.as_slice-2.ensures.value ∙ c.head.view_is) (c.as_slice.ensures.value ∙ c.head.view_is)
    c.in_ok-dependencies.ensures c.in_ok-vocabulary_names.ensures))

pub returns-in-Ok-clause-paid : goal.returns-in-Ok-clause-paid
returns-in-Ok-clause-paid g c = λ names start h.
    source_paid names start (g.S.Shelf.amount c.fetch_vocabularies.new.shelf) c.fetch_vocabularies.new.self c.add_source.new.self c.in_ok-dependencies.dependencies _
    (c.in_ok-fetch_vocabularies.ensures.paid names start (length c.in_ok-dependencies.dependencies)
    (take_paid names start (g.S.Shelf.amount c.args.shelf.now) (g.S.Shelf.amount c.fetched.new.shelf) _ c.in_ok-text.text c.in_ok-text.bytes _ _ _ c.in_ok-dependencies.dependencies c.in_ok-vocabulary_names.vocabulary_names
    (subst (λ s. IsPaid names start (g.S.Shelf.amount c.args.shelf.now) 0 s) (sym c.self.view_is) h) c.in_ok-text.ensures.charged c.in_ok-text.ensures.amount.stands c.in_ok-head.ensures (c.as_slice-2.ensures.value ∙ c.head.view_is) (c.as_slice.ensures.value ∙ c.head.view_is)
    c.in_ok-dependencies.ensures c.in_ok-vocabulary_names.ensures))
    c.in-Ok.ensures.added

pub returns-clause-paid : goal.returns-clause-paid
returns-clause-paid g c = λ names start h.
    source_refused names start (g.S.Shelf.amount c.fetch_vocabularies.new.shelf) c.fetch_vocabularies.new.self c.add_source.new.self
    (record { name = c.args.name; text = option_map arc_value c.in_ok-text-2.text; dependencies = c.in_ok-dependencies.dependencies; vocabulary_names = c.in_ok-vocabulary_names.vocabulary_names }) c.in-Err.fault
    (c.in_ok-fetch_vocabularies.ensures.paid names start (length c.in_ok-dependencies.dependencies)
    (take_paid names start (g.S.Shelf.amount c.args.shelf.now) (g.S.Shelf.amount c.fetched.new.shelf) _ c.in_ok-text.text c.in_ok-text.bytes _ _ _ c.in_ok-dependencies.dependencies c.in_ok-vocabulary_names.vocabulary_names
    (subst (λ s. IsPaid names start (g.S.Shelf.amount c.args.shelf.now) 0 s) (sym c.self.view_is) h) c.in_ok-text.ensures.charged c.in_ok-text.ensures.amount.stands c.in_ok-head.ensures (c.as_slice-2.ensures.value ∙ c.head.view_is) (c.as_slice.ensures.value ∙ c.head.view_is)
    c.in_ok-dependencies.ensures c.in_ok-vocabulary_names.ensures))
    c.in-Err.ensures.told

pub returns-in_err-text-clause-fails : goal.returns-in_err-text-clause-fails
returns-in_err-text-clause-fails g c = λ files e next.
    let p = err_from_is_err_and c.from_residual.result c.from_residual.ensures.1 in
    rw (p.1, p.2)
    (read_same (Option (List ℕ) × ℕ) (Unit {0}) c.in_err-text.field-0.0 _ _
    (text_fails files c.args.self.now c.args.name (g.S.Shelf.amount c.args.shelf.now) (g.S.Shelf.amount c.fetched.new.shelf) (g.met.S.Shelf.amount_fits c.args.shelf.now) next)
    c.in_err-text.ensures.still)

pub returns-in_err-fetch_vocabularies-clause-fails : goal.returns-in_err-fetch_vocabularies-clause-fails
returns-in_err-fetch_vocabularies-clause-fails g c = λ files e.
    let p = err_from_is_err_and c.from_residual-in_err-fetch_vocabularies.result c.from_residual-in_err-fetch_vocabularies.ensures.1 in
    subst
    (λ s. next_name s ≡ Some c.args.name → OnRead c.from_residual-in_err-fetch_vocabularies.result ((h : Gathered) × ComesTo files s h × Gave (g.S.Shelf.amount c.args.shelf.now) (g.S.Shelf.amount c.fetch_vocabularies.new.shelf) s.bytes h.bytes))
    c.self.view_is
    (λ next.
    rw (p.1, p.2)
    (read_same (Unit {0}) (Unit {0}) c.in_err-fetch_vocabularies.field-0.0 _ _
    (vocabulary_fails files _ c.args.name c.in_ok-text.text c.in_ok-text.bytes c.in_ok-head.head c.in_ok-vocabulary_names.vocabulary_names (g.S.Shelf.amount c.args.shelf.now) (g.S.Shelf.amount c.fetched.new.shelf) (g.S.Shelf.amount c.fetch_vocabularies.new.shelf)
    next (c.in_ok-text.ensures.told files e).0 (c.in_ok-text.ensures.told files e).1 c.in_ok-head.ensures (c.in_ok-vocabulary_names.ensures ∙ ap vocabulary_names_of (c.as_slice.ensures.value ∙ c.head.view_is)) c.in_ok-text.ensures.gave)
    (c.in_err-fetch_vocabularies.ensures.fails files (c.in_ok-text.ensures.unchanged ∙ e))))

pub returns-in-Ok-clause-gave : goal.returns-in-Ok-clause-gave
returns-in-Ok-clause-gave g c =
    subst (λ s. Gave (g.S.Shelf.amount c.args.shelf.now) (g.S.Shelf.amount c.fetch_vocabularies.new.shelf) s.bytes c.add_source.new.self.bytes) c.self.view_is
    (subst (λ b. Gave (g.S.Shelf.amount c.args.shelf.now) (g.S.Shelf.amount c.fetch_vocabularies.new.shelf) c.self.inside.bytes b) (sym (ap (λ s. s.bytes) c.in-Ok.ensures.added))
    (Gave-on _ _ _ _ _ _ c.in_ok-text.ensures.gave c.in_ok-fetch_vocabularies.ensures.gave))
