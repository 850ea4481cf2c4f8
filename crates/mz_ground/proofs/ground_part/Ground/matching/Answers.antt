use Rattle.std.proofs.Common.{◌+◌, ℕ, List, sym, subst}
use Rattle.std.specs.Prelude.{Contains, Option}
use Rattle.mz_ground.specs.Instances.{expression_at, IsTriggerValue, MatchedBelow}
use Rattle.mz_ground.proofs.TriggerLemmas.{match_missing, matched_more, matched_within}
use Rattle.mz_ground.proofs.ground_part.Ground.matching.Goals as goal

pub returns-in-None : goal.returns-in-None
returns-in-None c =
    let g = c.args.self.now in
    let p = expression_at g c.args.at in
    match_missing g c.args.c.now p c.loop-index.index c.loop-index-test.true
    (subst (λ (o : Option ℕ). IsTriggerValue g c.loop-index.index c.args.c.now.trigger p o) c.in-None.is c.value.ensures)

pub loop-index-preserved : goal.loop-index-preserved
loop-index-preserved c =
    let g = c.args.self.now in
    let p = expression_at g c.args.at in
    subst (λ (z : List ℕ). MatchedBelow g c.args.c.now p (c.loop-index.index + 1) z) (sym c.in_ok-push-in-Some.ensures.ok)
    (matched_more g c.args.c.now p c.loop-index.index c.in-Some.place c.loop-index.places c.loop-index-test.true c.loop-index.invariant
    (subst (λ (o : Option ℕ). IsTriggerValue g c.loop-index.index c.args.c.now.trigger p o) c.in-Some.is c.value.ensures))

pub is_instance-requires-clause-args : goal.is_instance-requires-clause-args
is_instance-requires-clause-args c = λ k w.
    matched_within c.args.self.now c.args.c.now (expression_at c.args.self.now c.args.at) c.loop-index.index c.loop-index.places c.loop-index.invariant k
    (subst (λ (z : List ℕ). Contains z k) c.as_slice.ensures w)
