use Rattle.std.proofs.Common.{◌≡◌, ◌≤◌, ◌∙◌, arith, Ok, Err, length, refl, sym, subst}
use Rattle.mz_io.specs.Count.{Rose}
use Rattle.mz_corpus.specs.Failed.{Gave, later}
use Rattle.mz_corpus.specs.Gather.{Gathered, Goes, Gathers, TakesArticle, whole, passed, goes_on}
use Rattle.mz_corpus.specs.Orderly.{IsOrderly}
use Rattle.mz_corpus.specs.Rise.{HasRisen, IsLarge}
use Rattle.mz_corpus.proofs.FailedLemmas.{Gave-none, Gave-on, fails_early}
use Rattle.mz_corpus.proofs.GatherLemmas.{gathers_from, read_same, answer_passed, begin_refused, begin_unread, next_within}
use Rattle.mz_corpus.proofs.OrderlyLemmas.{IsOrderly-begun, IsFit-gathered}
use Rattle.mz_corpus.proofs.RiseLemmas.{Raises-none, Raises-on, begun_paid, begin_large, limit_same, long_same, risen_before}
use Rattle.mz_corpus.proofs.gather.gathered.Goals as goal

pub returns-in-Err-clause-told : goal.returns-in-Err-clause-told
returns-in-Err-clause-told g c = λ files e. begin_refused {X = Gathered} files c.args.names.now (λ h. Gathers files c.args.names.now (Ok h)) c.in-Err.fault c.in-Err.ensures

pub returns-in-Err-clause-read : goal.returns-in-Err-clause-read
returns-in-Err-clause-read g c = begin_unread Gathered c.args.names.now c.in-Err.fault (Rose (g.S.Shelf.faults c.args.shelf.now) (g.S.Shelf.faults c.args.shelf.now)) c.in-Err.ensures

pub loop-name-init : goal.loop-name-init
loop-name-init g c = record {
  orderly = subst IsOrderly (sym c.in-Ok.ensures.0) (IsOrderly-begun c.args.names.now);
  few = subst (λ x. length x.queue ≤ 512) (sym c.in-Ok.ensures.0) c.in-Ok.ensures.1;
  unchanged = refl;
  never_fall = omega arith;
  amount = Raises-none {X = Unit {0}} (g.S.Shelf.amount c.args.shelf.now) tt;
  paid = begun_paid c.args.names.now (g.S.Shelf.amount c.args.shelf.now) c.in-Ok.gathering c.in-Ok.ensures.0;
  gave =
      subst (λ x. Gave (g.S.Shelf.amount c.args.shelf.now) (g.S.Shelf.amount c.args.shelf.now) 0 x.bytes) (sym c.in-Ok.ensures.0)
      (Gave-none (g.S.Shelf.amount c.args.shelf.now) (g.S.Shelf.amount c.args.shelf.now) 0 (g.met.S.Shelf.amount_fits c.args.shelf.now) refl);
  comes = λ files e k h. h;
  told = λ files e r h. h;
}

pub loop-name-preserved : goal.loop-name-preserved
loop-name-preserved g c = record {
  orderly = c.in-Ok-take.ensures.kept c.loop-name.invariant.orderly (sym c.in-Some.ensures);
  few = c.in-Ok-take.ensures.few;
  unchanged = c.in-Ok-take.ensures.unchanged ∙ c.loop-name.invariant.unchanged;
  never_fall = omega (arith, c.in-Ok-take.ensures.never_fall, c.loop-name.invariant.never_fall);
  amount = Raises-on {W = Unit {0}} {X = Unit {0}} {Y = Unit {0}} (g.S.Shelf.amount c.args.shelf.now) (g.S.Shelf.amount c.loop-name.shelf) (g.S.Shelf.amount c.take.new.shelf) tt tt tt c.loop-name.invariant.amount c.in-Ok-take.ensures.amount;
  paid = c.in-Ok-take.ensures.paid (length c.args.names.now) (g.S.Shelf.amount c.args.shelf.now) c.loop-name.invariant.paid;
  gave = Gave-on _ _ _ _ _ _ c.loop-name.invariant.gave c.in-Ok-take.ensures.gave;
  comes = λ files e k h. c.loop-name.invariant.comes files e k (later _ _ _ _ (sym c.in-Some.ensures) (c.in-Ok-take.ensures.told files (c.loop-name.invariant.unchanged ∙ e)) h);
  told = λ files e r h. c.loop-name.invariant.told files e r (goes_on _ _ _ _ (sym c.in-Some.ensures) (c.in-Ok-take.ensures.told files (c.loop-name.invariant.unchanged ∙ e)) h);
}

pub loop-name-smaller : goal.loop-name-smaller
loop-name-smaller g c = omega (arith, next_within c.loop-name.gathering c.in-Some.name (sym c.in-Some.ensures), c.loop-name.invariant.few, c.in-Ok-take.ensures.grows)

pub returns-in-Err-take-clause-told : goal.returns-in-Err-take-clause-told
returns-in-Err-take-clause-told g c = λ files e.
    answer_passed (TakesArticle files c.loop-name.gathering c.in-Some.name) (Gathers files c.args.names.now) (λ h. Gathers files c.args.names.now (Ok h)) c.in-Err-take.fault c.take.new.self
    (λ f t. gathers_from files c.args.names.now _ (Err f) c.in-Ok.ensures (c.loop-name.invariant.told files e (Err f) (passed _ _ f (sym c.in-Some.ensures) t))) (c.in-Err-take.ensures.told files (c.loop-name.invariant.unchanged ∙ e))

pub returns-clause-told : goal.returns-clause-told
returns-clause-told g c = λ files e. gathers_from files c.args.names.now _ _ c.in-Ok.ensures (c.loop-name.invariant.told files e _ (whole _ (sym c.in_default.ensures)))

pub returns-clause-fit : goal.returns-clause-fit
returns-clause-fit g c = IsFit-gathered _ c.loop-name.invariant.orderly c.loop-name.invariant.few (sym c.in_default.ensures)

pub returns-in-Err-clause-limits : goal.returns-in-Err-clause-limits
returns-in-Err-clause-limits g c = begin_large Gathered c.args.names.now (g.S.Shelf.amount c.args.shelf.now) c.in-Err.fault c.in-Err.ensures

pub returns-in-Err-take-clause-rises : goal.returns-in-Err-take-clause-rises
returns-in-Err-take-clause-rises g c = omega (arith, c.loop-name.invariant.amount.rises, c.in-Err-take.ensures.amount.rises)

pub returns-in-Err-take-clause-limits : goal.returns-in-Err-take-clause-limits
returns-in-Err-take-clause-limits g c =
    limit_same (Unit {0}) Gathered c.in-Err-take.fault (IsLarge (length c.args.names.now) (g.S.Shelf.amount c.args.shelf.now) (g.S.Shelf.amount c.take.new.shelf)) (c.in-Err-take.ensures.paid (length c.args.names.now) (g.S.Shelf.amount c.args.shelf.now) c.loop-name.invariant.paid)

pub returns-in-Err-take-clause-too_long : goal.returns-in-Err-take-clause-too_long
returns-in-Err-take-clause-too_long g c =
    long_same (Unit {0}) Gathered c.in-Err-take.fault (HasRisen (g.S.Shelf.amount c.loop-name.shelf) (g.S.Shelf.amount c.take.new.shelf) 1048577) (HasRisen (g.S.Shelf.amount c.args.shelf.now) (g.S.Shelf.amount c.take.new.shelf) 1048577)
    (risen_before (g.S.Shelf.amount c.args.shelf.now) (g.S.Shelf.amount c.loop-name.shelf) (g.S.Shelf.amount c.take.new.shelf) 1048577 c.loop-name.invariant.amount.rises) c.in-Err-take.ensures.amount.too_long

pub returns-clause-rises : goal.returns-clause-rises
returns-clause-rises g c = c.loop-name.invariant.amount.rises

pub returns-in-Err-take-clause-fails : goal.returns-in-Err-take-clause-fails
returns-in-Err-take-clause-fails g c = λ files e.
    read_same (Unit {0}) Gathered c.in-Err-take.fault _ _
    (λ r. fails_early files c.args.names.now c.in-Ok.gathering (g.S.Shelf.amount c.args.shelf.now) (g.S.Shelf.amount c.take.new.shelf) c.in-Ok.ensures r.0 (c.loop-name.invariant.comes files e r.0 r.1) (Gave-on _ _ _ _ _ _ c.loop-name.invariant.gave r.2))
    (c.in-Err-take.ensures.fails files (c.loop-name.invariant.unchanged ∙ e) (sym c.in-Some.ensures))
