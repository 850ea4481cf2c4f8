use Rattle.std.proofs.Common.{arith, ap, length, subst, ℕ, true, ◌≡◌}
use Rattle.mz_match.specs.Places.{Extends}
use Rattle.mz_match.proofs.PlaceLemmas.{FitsTo, told_unlike, told_not_bound, told_slot_more, told_all_bound, FitsTo-none}
use Rattle.mz_match.proofs.assignment.Assignment.bind_all.Goals as goal

pub returns-then-scope-len : goal.returns-then-scope-len
returns-then-scope-len c = told_unlike c.args.scope.now c.args.local.now c.args.self.now (λ q. omega (arith, ap length c.local.view_is))

pub returns-then-not-bind_slot : goal.returns-then-not-bind_slot
returns-then-not-bind_slot c =
    told_not_bound c.args.scope.now c.args.local.now c.args.self.now c.loop-k.self c.bind_slot.new.self c.loop-k.k c.at.result c.loop-k-test.true c.at.ensures c.loop-k.invariant c.if-not-bind_slot.ensures

pub loop-k-preserved : goal.loop-k-preserved
loop-k-preserved c =
    told_slot_more c.args.scope.now c.args.local.now c.args.self.now c.loop-k.self c.bind_slot.new.self c.loop-k.k c.at.result c.loop-k-test.true c.at.ensures c.loop-k.invariant c.if-not-bind_slot.ensures

pub loop-k-init : goal.loop-k-init
loop-k-init c = FitsTo-none c.args.scope.now c.args.local.now c.args.self.now

pub returns : goal.returns
returns c =
    let n : length c.args.scope.now ≡ length c.args.local.now = omega (arith, ap length c.local.view_is) in
    let m : c.loop-k.k ≡ length c.args.scope.now = omega arith in
    told_all_bound c.args.scope.now c.args.local.now c.args.self.now c.loop-k.self n
    (subst (λ (k : ℕ). Extends (λ a. FitsTo c.args.scope.now c.args.local.now a k) c.args.self.now c.loop-k.self true) m c.loop-k.invariant)
