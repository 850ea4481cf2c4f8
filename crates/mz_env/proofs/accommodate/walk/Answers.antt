use Rattle.std.proofs.Common.{◌≡◌, ◌≤◌, ◌∙◌, length, subst, arith}
use Rattle.std.specs.Prelude.{Ok, Err}
use Rattle.std.proofs.lemmas.Grind.{common_steps}
use Rattle.mz_env.specs.Walking.{GivesBehind}
use Rattle.mz_env.proofs.WalkLemmas.{told_refused, told_turn, told_end}
use Rattle.mz_env.proofs.accommodate.walk.Goals as goal

pub returns-in-Some : goal.returns-in-Some
returns-in-Some c =
    let same : c.deref-d-items.result.now ≡ c.args.ds.now = c.deref-d-items.ensures.value ∙ c.ds.view_is in
    subst (λ ds. GivesBehind c.args.exports.now c.args.articles.now c.args.begun.now ds c.args.env.now (Err c.in-Some.f)) same
    (told_refused c.args.exports.now c.args.articles.now c.args.begun.now c.loop-d.begun c.deref-d-items.result.now c.loop-d.d-index c.d-item.result c.args.env.now c.loop-d.env c.in-Some.f c.in_ok-fault.fault c.loop-d-test.true c.d-item.is c.in_ok-fault.ensures c.in-Some.is c.loop-d.invariant)

pub loop-d-preserved : goal.loop-d-preserved
loop-d-preserved c =
    told_turn c.args.exports.now c.args.articles.now c.args.begun.now c.loop-d.begun c.reached.new.begun c.deref-d-items.result.now c.loop-d.d-index c.d-item.result c.args.env.now c.loop-d.env c.add_exports.new.out c.in_ok-es.es c.in_ok-fault.fault c.loop-d-test.true c.d-item.is c.in_ok-fault.ensures c.in-None.is c.in_ok-es.ensures c.in_ok-add_exports.ensures c.loop-d.invariant

pub returns : goal.returns
returns c =
    let same : c.deref-d-items.result.now ≡ c.args.ds.now = c.deref-d-items.ensures.value ∙ c.ds.view_is in
    let past : length c.deref-d-items.result.now ≤ c.loop-d.d-index = grind (arith, common_steps) in
    subst (λ ds. GivesBehind c.args.exports.now c.args.articles.now c.args.begun.now ds c.args.env.now (Ok c.loop-d.env)) same
    (told_end c.args.exports.now c.args.articles.now c.args.begun.now c.loop-d.begun c.deref-d-items.result.now c.loop-d.d-index c.args.env.now c.loop-d.env past c.loop-d.invariant)
