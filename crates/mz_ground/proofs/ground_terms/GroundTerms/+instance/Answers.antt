use Rattle.std.proofs.Common.{rules, Some, ℕ, List, length, map, sym, ap, ◌∙◌, subst, eq-eqb, arith}
use Rattle.std.specs.Prelude.{Contains}
use Rattle.std.proofs.lemmas.Bool.{false≢true, eqb-true}
use Rattle.mz_ground.specs.Ground.{term_at}
use Rattle.mz_ground.specs.Table.{entry_terms}
use Rattle.std.proofs.lemmas.List.Elements.{Contains-get_or}
use Rattle.mz_ground.proofs.MatchLemmas.{substitute-bound_is, bound_place, bound_past, substitute-app_is, app_place_sym, map-app_place_args, entry_args_within, item_falls, substitute-item_is, map_more, maps_length}
use Rattle.mz_ground.proofs.ground_terms.GroundTerms.+instance.Goals as goal

pub is_instance_at-are_instances_at-requires : goal.is_instance_at-are_instances_at-requires
is_instance_at-are_instances_at-requires t c =
    (search rules, (c.requires.table, (c.requires.args, λ k w. entry_args_within c.args.self.now c.requires.table c.args.place c.in-App-get-2.sym c.in-App-get-2.places (c.get-in-App.ensures ∙ ap Some c.in-App-get-2.is) k (subst (λ (z : List ℕ). Contains z k) c.as_slice.ensures w))))

pub is_instance_at-returns-then-is : goal.is_instance_at-returns-then-is
is_instance_at-returns-then-is t c =
    let ts = map (term_at (entry_terms c.args.self.now)) c.args.args.now in
    let g = c.get-in-App.ensures ∙ ap Some c.in-App-get-2.is in
    let as' = ap (map (term_at (entry_terms c.args.self.now))) c.as_slice.ensures in (
      λ q. substitute-app_is c.args.self.now c.requires.table ts c.args.place c.in-App.r c.in-App-get-2.sym c.in-App.us c.in-App-get-2.places c.args.t.now (search rules) g (search rules) (c.are_instances_at.ensures.0 q ∙ as'),
      λ f. c.are_instances_at.ensures.1 (map-app_place_args c.args.self.now c.requires.table ts c.args.place c.in-App.r c.in-App-get-2.sym c.in-App.us c.in-App-get-2.places c.args.t.now (search rules) g f ∙ sym as'),
    )

pub is_instance_at-returns-else-is : goal.is_instance_at-returns-else-is
is_instance_at-returns-else-is t c =
    let ts = map (term_at (entry_terms c.args.self.now)) c.args.args.now in
    let g = c.get-in-App.ensures ∙ ap Some c.in-App-get-2.is in (
      λ q. absurd (false≢true (sym c.if-is.false ∙ q)),
      λ f. c.is.ensures.one.1 (app_place_sym c.args.self.now c.requires.table ts c.args.place c.in-App.r c.in-App-get-2.sym c.in-App.us c.in-App-get-2.places c.args.t.now (search rules) g f),
    )

pub is_instance_at-returns-in-Some : goal.is_instance_at-returns-in-Some
is_instance_at-returns-in-Some t c = (
  λ q. substitute-bound_is c.args.self.now c.args.args.now c.in-Bound.n c.in-Some.arg c.args.place c.args.t.now (search rules) (sym c.in-Some.ensures) (eqb-true _ _ q),
  λ f. eq-eqb _ _ (bound_place c.args.self.now c.requires.table c.args.args.now c.in-Bound.n c.in-Some.arg c.args.place c.args.t.now (search rules) (sym c.in-Some.ensures) c.requires.args c.requires.within f),
)

pub is_instance_at-returns-in-None : goal.is_instance_at-returns-in-None
is_instance_at-returns-in-None t c = (
  λ q. absurd (false≢true q),
  λ f. absurd (bound_past c.args.self.now c.requires.table c.args.args.now c.in-Bound.n c.args.place c.args.t.now (search rules) (sym c.in-None.ensures) c.requires.within f),
)

pub are_instances_at-is_instance_at-requires : goal.are_instances_at-is_instance_at-requires
are_instances_at-is_instance_at-requires t c =
    (item_falls c.args.us.now c.us.inside.items.items c.loop-i.i t c.index.result.now c.us.view_is (omega arith) c.index.ensures c.decreases, (c.requires.table, (c.requires.args, c.requires.within _ (Contains-get_or c.args.places.now c.loop-i.i 0 c.loop-i-test.true))))

pub are_instances_at-returns-then-len-places : goal.are_instances_at-returns-then-len-places
are_instances_at-returns-then-len-places t c = (
  λ q. absurd (false≢true q),
  λ f. absurd (omega (arith, c.if-len-places.true, ap length c.us.view_is, maps_length _ _ c.args.us.now c.args.places.now f)),
)

pub are_instances_at-returns-then-not-is_instance_at : goal.are_instances_at-returns-then-not-is_instance_at
are_instances_at-returns-then-not-is_instance_at t c = (
  λ q. absurd (false≢true q),
  λ f. absurd (false≢true (sym c.if-not-is_instance_at.true ∙ c.is_instance_at.ensures.1 (substitute-item_is _ _ c.args.us.now c.us.inside.items.items c.args.places.now c.loop-i.i c.index.result.now c.us.view_is (omega arith) c.index.ensures f))),
)

pub are_instances_at-loop-i-preserved : goal.are_instances_at-loop-i-preserved
are_instances_at-loop-i-preserved t c = map_more _ _ c.us.inside.items.items c.args.places.now c.loop-i.i c.index.result.now (omega arith) (omega arith) c.index.ensures (c.is_instance_at.ensures.0 c.if-not-is_instance_at.false) c.loop-i.invariant
