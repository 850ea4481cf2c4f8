use Rattle.std.proofs.Common.{◌∙◌, subst, refl, arith}
use Rattle.mz_by.specs.Verdict.{DecidesAll}
use Rattle.mz_by.proofs.LimitLemmas.{left_decided, left_passed, none_left, given_some, given_none}
use Rattle.mz_by.proofs.by.decide_all.Goals as goal

pub returns-in-Some : goal.returns-in-Some
returns-in-Some c = subst (λ ds. DecidesAll c.args.clauses.now 1 ds c.in-Some.verdict) (c.deref-d-items.ensures.value ∙ c.ds.view_is) (left_decided _ _ _ _ _ _ c.loop-d-test.true c.d-item.is c.loop-d.invariant.1 (given_some _ _ _ _ c.in-Some.is c.in_ok-verdict.ensures))

pub loop-d-preserved : goal.loop-d-preserved
loop-d-preserved c = (omega (arith, c.loop-d.invariant.0), left_passed _ _ _ _ _ _ c.loop-d-test.true c.d-item.is refl c.loop-d.invariant.1 (given_none _ _ _ c.in-None.is c.in_ok-verdict.ensures))

pub returns : goal.returns
returns c = subst (λ ds. DecidesAll c.args.clauses.now 1 ds _) (c.deref-d-items.ensures.value ∙ c.ds.view_is) (none_left _ _ _ _ c.loop-d-test.false c.loop-d.invariant.1)
