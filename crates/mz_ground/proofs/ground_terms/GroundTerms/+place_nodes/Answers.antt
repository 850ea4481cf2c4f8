use Rattle.std.proofs.Common.{rules, Some, ℕ, List, ap, ◌∙◌, subst, arith}
use Rattle.std.specs.Prelude.{Contains}
use Rattle.mz_ground.specs.Ground.{term_at}
use Rattle.mz_ground.specs.Table.{entry_terms}
use Rattle.std.proofs.Common.{◌<◌, get_or}
use Rattle.std.proofs.lemmas.List.Elements.{Contains-get_or}
use Rattle.mz_ground.proofs.NodeLemmas.{spent_next, spent_over, get_or-read_self, args_below_place}
use Rattle.mz_ground.proofs.ground_terms.GroundTerms.+place_nodes.Goals as goal

pub after_places-returns-in-None : goal.after_places-returns-in-None
after_places-returns-in-None t c = spent_over (term_at (entry_terms c.args.self.now)) c.args.places.now c.loop-place.place-index (get_or c.args.places.now c.loop-place.place-index 0) c.args.left c.loop-place.rest c.loop-place-test.true (get_or-read_self c.args.places.now c.loop-place.place-index) c.loop-place.invariant c.in-None.ensures

pub after_places-loop-place-preserved : goal.after_places-loop-place-preserved
after_places-loop-place-preserved t c = spent_next (term_at (entry_terms c.args.self.now)) c.args.places.now c.loop-place.place-index (get_or c.args.places.now c.loop-place.place-index 0) c.args.left c.loop-place.rest c.in-Some.less c.loop-place-test.true (get_or-read_self c.args.places.now c.loop-place.place-index) c.loop-place.invariant c.in-Some.ensures

pub after_place-after_places-requires : goal.after_place-after_places-requires
after_place-after_places-requires t c =
    (search rules, (c.requires.table, (omega arith, λ k w. args_below_place c.args.self.now c.requires.table c.args.place c.in-App.sym c.in-App.args (c.get.ensures ∙ ap Some c.in-App.is) k (subst (λ (z : List ℕ). Contains z k) c.as_slice.ensures w))))

pub after_places-after_place-requires : goal.after_places-after_place-requires
after_places-after_place-requires t c =
    let lt : get_or c.args.places.now c.loop-place.place-index 0 < c.args.bound = c.requires.below (get_or c.args.places.now c.loop-place.place-index 0) (Contains-get_or c.args.places.now c.loop-place.place-index 0 c.loop-place-test.true) in
    (search rules, (c.requires.table, omega arith))
