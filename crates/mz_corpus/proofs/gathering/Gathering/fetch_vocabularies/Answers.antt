use Rattle.std.proofs.Common.{◌≡◌, ◌+◌, ◌-◌, ◌∙◌, arith, subst, refl, length, Err}
use Rattle.mz_corpus.specs.Gather.{with_vocabulary, with_vocabularies, Tells}
use Rattle.mz_corpus.proofs.FailedLemmas.{Gave-none, Gave-on, one_fails}
use Rattle.mz_corpus.proofs.GatherLemmas.{Tells-passed, read_same, vocabularies_turn, vocabularies_passed}
use Rattle.mz_corpus.proofs.RiseLemmas.{Raises-none, Raises-on, Raises-refused, paid_start, paid_first, paid_next, paid_last}
use Rattle.mz_corpus.proofs.gathering.Gathering.fetch_vocabularies.Goals as goal

pub returns-in-Err-clause-told : goal.returns-in-Err-clause-told
returns-in-Err-clause-told g c = λ files e.
    subst (λ names. Tells (λ r. r ≡ with_vocabularies files c.args.self.now names) (Err c.in-Err.fault) c.fetch_vocabulary.new.self) c.as_slice-name-items.ensures
    (Tells-passed (λ r. r ≡ with_vocabulary files c.loop-name.self c.name-item.result) (λ r. r ≡ with_vocabularies files c.args.self.now c.as_slice-name-items.result.now)
    (λ f t. vocabularies_passed files _ _ _ _ _ f c.loop-name-test.true c.name-item.is (c.loop-name.invariant.told files e) t) c.in-Err.fault c.fetch_vocabulary.new.self c.fetch_vocabulary.new.self
    (c.in-Err.ensures.told files (c.loop-name.invariant.unchanged ∙ e)))

pub returns-in-Err-clause-paid : goal.returns-in-Err-clause-paid
returns-in-Err-clause-paid g c = λ handed start spare h.
    c.in-Err.ensures.paid handed start (spare + (length c.as_slice-name-items.result.now - (c.loop-name.name-index + 1)))
    (paid_next handed start (g.S.Shelf.amount c.loop-name.shelf) spare (length c.as_slice-name-items.result.now) c.loop-name.name-index c.loop-name.self c.loop-name-test.true
    (c.loop-name.invariant.paid handed start spare (paid_start handed start (g.S.Shelf.amount c.args.shelf.now) spare c.args.names.now c.as_slice-name-items.result.now c.args.self.now c.as_slice-name-items.ensures h)))

pub returns-in-Err-clause-amount : goal.returns-in-Err-clause-amount
returns-in-Err-clause-amount g c =
    Raises-refused (Unit {0}) (Unit {0}) (Unit {0}) (g.S.Shelf.amount c.args.shelf.now) (g.S.Shelf.amount c.loop-name.shelf) (g.S.Shelf.amount c.fetch_vocabulary.new.shelf) tt c.in-Err.fault c.loop-name.invariant.amount c.in-Err.ensures.amount

pub returns-clause-paid : goal.returns-clause-paid
returns-clause-paid g c = λ handed start spare h.
    paid_last handed start (g.S.Shelf.amount c.loop-name.shelf) spare (length c.as_slice-name-items.result.now) c.loop-name.name-index c.loop-name.self c.loop-name-test.false
    (c.loop-name.invariant.paid handed start spare (paid_start handed start (g.S.Shelf.amount c.args.shelf.now) spare c.args.names.now c.as_slice-name-items.result.now c.args.self.now c.as_slice-name-items.ensures h))

pub returns-clause-amount : goal.returns-clause-amount
returns-clause-amount g c = c.loop-name.invariant.amount

pub loop-name-init : goal.loop-name-init
loop-name-init g c = record {
  sources = refl;
  queue = refl;
  apart = λ h. h;
  unchanged = refl;
  never_fall = omega arith;
  amount = Raises-none {X = Unit {0}} (g.S.Shelf.amount c.args.shelf.now) tt;
  gave = Gave-none (g.S.Shelf.amount c.args.shelf.now) (g.S.Shelf.amount c.args.shelf.now) c.args.self.now.bytes (g.met.S.Shelf.amount_fits c.args.shelf.now) refl;
  paid = λ handed start spare h. paid_first handed start (g.S.Shelf.amount c.args.shelf.now) spare (length c.as_slice-name-items.result.now) c.args.self.now h;
  told = λ files e. refl;
}

pub loop-name-preserved : goal.loop-name-preserved
loop-name-preserved g c = record {
  sources = c.in-Ok.ensures.sources ∙ c.loop-name.invariant.sources;
  queue = c.in-Ok.ensures.queue ∙ c.loop-name.invariant.queue;
  apart = λ h. c.in-Ok.ensures.apart (c.loop-name.invariant.apart h);
  unchanged = c.in-Ok.ensures.unchanged ∙ c.loop-name.invariant.unchanged;
  never_fall = omega (arith, c.in-Ok.ensures.never_fall, c.loop-name.invariant.never_fall);
  amount = Raises-on {W = Unit {0}} {X = Unit {0}} {Y = Unit {0}} (g.S.Shelf.amount c.args.shelf.now) (g.S.Shelf.amount c.loop-name.shelf) (g.S.Shelf.amount c.fetch_vocabulary.new.shelf) tt tt tt c.loop-name.invariant.amount c.in-Ok.ensures.amount;
  gave = Gave-on _ _ _ _ _ _ c.loop-name.invariant.gave c.in-Ok.ensures.gave;
  paid = λ handed start spare h.
      c.in-Ok.ensures.paid handed start (spare + (length c.as_slice-name-items.result.now - (c.loop-name.name-index + 1)))
      (paid_next handed start (g.S.Shelf.amount c.loop-name.shelf) spare (length c.as_slice-name-items.result.now) c.loop-name.name-index c.loop-name.self c.loop-name-test.true (c.loop-name.invariant.paid handed start spare h));
  told = λ files e.
      vocabularies_turn files _ _ _ _ _ _ c.loop-name-test.true c.name-item.is (c.loop-name.invariant.told files e) (c.in-Ok.ensures.told files (c.loop-name.invariant.unchanged ∙ e));
}

pub returns-clause-gave : goal.returns-clause-gave
returns-clause-gave g c = c.loop-name.invariant.gave

pub returns-in-Err-clause-fails : goal.returns-in-Err-clause-fails
returns-in-Err-clause-fails g c = λ files e.
    read_same (Unit {0}) (Unit {0}) c.in-Err.fault _ _
    (one_fails files c.args.names.now c.as_slice-name-items.result.now c.loop-name.name-index c.name-item.result c.args.self.now c.loop-name.self (g.S.Shelf.amount c.args.shelf.now) (g.S.Shelf.amount c.loop-name.shelf) (g.S.Shelf.amount c.fetch_vocabulary.new.shelf)
    c.as_slice-name-items.ensures c.loop-name-test.true c.name-item.is (c.loop-name.invariant.told files e) c.loop-name.invariant.gave)
    c.in-Err.ensures.fails
