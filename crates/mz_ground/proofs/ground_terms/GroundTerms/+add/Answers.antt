use Rattle.std.proofs.Common.{rules, ℕ, List, subst, arith, ◌<◌, ◌≤◌, length}
use Rattle.std.specs.Prelude.{Option}
use Rattle.mz_logic.specs.Term.{Term}
use Rattle.mz_ground.specs.Table.{Reads, AddsTerms}
use Rattle.mz_ground.proofs.AddLemmas.{told_bound, told_const, told_app_some, told_app_none, told_each, told_each_all}
use Rattle.mz_ground.proofs.ground_terms.GroundTerms.+add.Goals as goal

pub add-returns-in-Bound : goal.add-returns-in-Bound
add-returns-in-Bound t c = told_bound c.args.self.now c.args.args.now c.in-Bound.index c.place_for.result c.args.t.now (search rules) c.place_for.ensures

pub add-returns-in_ok-place-in-Const : goal.add-returns-in_ok-place-in-Const
add-returns-in_ok-place-in-Const t c = told_const c.args.self.now c.place.new.self c.args.args.now c.in-Const.number c.in_ok-place-in-Const.place c.args.t.now (search rules) c.in_ok-place-in-Const.ensures

pub add-returns-in_ok-place-in-Some : goal.add-returns-in_ok-place-in-Some
add-returns-in_ok-place-in-Some t c =
    told_app_some c.args.self.now c.add_all.new.self c.place-in-Some.new.self c.args.args.now c.in-App.sym c.in-App.us c.in-Some.places c.in_ok-place-in-Some.place c.args.t.now (search rules)
    (subst (λ (o : Option (List ℕ)). (ts : List Term) → Reads c.args.self.now c.args.args.now ts → AddsTerms c.args.self.now ts c.in-App.us o c.add_all.new.self) c.in-Some.is c.in_ok-places-in-App.ensures)
    c.in_ok-place-in-Some.ensures

pub add-returns-in-None : goal.add-returns-in-None
add-returns-in-None t c =
    told_app_none c.args.self.now c.add_all.new.self c.args.args.now c.in-App.sym c.in-App.us c.args.t.now (search rules)
    (subst (λ (o : Option (List ℕ)). (ts : List Term) → Reads c.args.self.now c.args.args.now ts → AddsTerms c.args.self.now ts c.in-App.us o c.add_all.new.self) c.in-None.is c.in_ok-places-in-App.ensures)

pub add_all-loop-u-preserved : goal.add_all-loop-u-preserved
add_all-loop-u-preserved t c =
    let lt : c.loop-u.u-index < length c.deref-u-items.result.now = omega arith in
    told_each _ _ _ _ _ _ _ _ _ _ c.loop-u.invariant c.u-item.is lt c.in_ok-add.ensures c.in_ok-push.ensures.items

pub add_all-returns : goal.add_all-returns
add_all-returns t c =
    let le : length c.deref-u-items.result.now ≤ c.loop-u.u-index = omega arith in
    told_each_all _ _ _ c.deref-u-items.result.now c.args.us.now c.loop-u.u-index c.loop-u.found.items c.as_slice.result.now c.in_ok-places.places c.loop-u.invariant (search (rules, c.us.view_is, c.deref-u-items.ensures.value)) le c.as_slice.ensures.value c.in_ok-places.ensures
