use Rattle.std.proofs.Common.{rules, Some, ℕ, List, ap, ◌∙◌, subst, arith}
use Rattle.std.specs.Prelude.{Contains}
use Rattle.std.proofs.lemmas.Bool.{false≢true}
use Rattle.std.proofs.lemmas.List.Elements.{Contains-get_or}
use Rattle.mz_ground.proofs.MatchLemmas.{value_bound, value_app_other, entry_args_within, values_found_in, values_none_in, item_falls}
use Rattle.mz_ground.proofs.ground_terms.GroundTerms.+value.Goals as goal

pub value_in-value_among-requires : goal.value_in-value_among-requires
value_in-value_among-requires t c =
    (search rules, (c.requires.table, λ k w. entry_args_within c.args.self.now c.requires.table c.args.place c.in-App-get.sym c.in-App-get.args (c.get.ensures ∙ ap Some c.in-App-get.is) k (subst (λ (z : List ℕ). Contains z k) c.as_slice.ensures w)))

pub value_in-returns-then-n-index : goal.value_in-returns-then-n-index
value_in-returns-then-n-index t c = value_bound c.args.self.now c.args.index c.in-Bound.n c.args.place c.args.t.now c.requires.within (search rules) (search rules)

pub value_in-returns-else-is : goal.value_in-returns-else-is
value_in-returns-else-is t c =
    value_app_other c.args.self.now c.requires.table c.args.index c.args.place c.args.t.now c.in-App.r c.in-App-get.sym c.in-App.us c.in-App-get.args (search rules) (c.get.ensures ∙ ap Some c.in-App-get.is)
    (λ e. false≢true (c.if-is.ensures.one.1 e))

pub value_among-value_in-requires : goal.value_among-value_in-requires
value_among-value_in-requires t c =
    (item_falls c.args.us.now c.us.inside.items.items c.loop-i.i t c.index.result.now c.us.view_is (omega arith) c.index.ensures c.decreases, (c.requires.table, c.requires.within _ (Contains-get_or c.args.places.now c.loop-i.i 0 c.loop-i-test.true)))

pub value_among-returns-in-Some : goal.value_among-returns-in-Some
value_among-returns-in-Some t c =
    values_found_in c.args.self.now c.args.index c.args.us.now c.us.inside.items.items c.args.places.now c.loop-i.i c.in-Some.place c.index.result.now c.value_in.result c.us.view_is (omega arith) c.index.ensures c.in-Some.is c.value_in.ensures

pub value_among-returns : goal.value_among-returns
value_among-returns t c =
    values_none_in c.args.self.now c.args.index c.args.us.now c.us.inside.items.items c.args.places.now c.loop-i.i c.us.view_is (omega arith) c.loop-i.invariant
