use Rattle.std.proofs.Common.{rules, None, List, map, sym, ◌∙◌, subst}
use Rattle.mz_ground.specs.Ground.{term_at}
use Rattle.mz_logic.specs.Term.{Term, terms_of}
use Rattle.mz_logic.specs.Substitution.{substitute, value_at}
use Rattle.mz_ground.specs.Instance.{args_nodes}
use Rattle.mz_ground.specs.Nodes.{IsSpent}
use Rattle.mz_ground.specs.Table.{entry_terms}
use Rattle.mz_ground.proofs.NodeLemmas.{spent_next, spent_over, told_bound, told_past, place_within}
use Rattle.mz_ground.proofs.ground_terms.GroundTerms.+nodes.Goals as goal

pub after_term-after_place-requires-clause-within : goal.after_term-after_place-requires-clause-within
after_term-after_place-requires-clause-within t c = place_within c.args.self.now c.args.args.now c.in-Bound.index c.in-Some.place c.requires.args (sym c.in-Some.ensures)

pub after_term-returns-in-Some : goal.after_term-returns-in-Some
after_term-returns-in-Some t c = told_bound c.args.self.now c.args.args.now c.args.t.now c.in-Bound.index c.in-Some.place c.args.left c.after_place.result (search rules) (sym c.in-Some.ensures) c.after_place.ensures

pub after_term-returns-in-None : goal.after_term-returns-in-None
after_term-returns-in-None t c = told_past c.args.self.now c.args.args.now c.args.t.now c.in-Bound.index c.args.left (search rules) (sym c.in-None.ensures) (search rules)

pub after_terms-returns-in-None : goal.after_terms-returns-in-None
after_terms-returns-in-None t c = subst (λ (xs : List Term). IsSpent c.args.left (args_nodes (terms_of (map (substitute 0 (value_at (map (term_at (entry_terms c.args.self.now)) c.args.args.now))) xs))) None) (c.deref-u-items.ensures.value ∙ c.us.view_is) (spent_over (substitute 0 (value_at (map (term_at (entry_terms c.args.self.now)) c.args.args.now))) c.deref-u-items.result.now c.loop-u.u-index c.u-item.result c.args.left c.loop-u.rest c.loop-u-test.true c.u-item.is c.loop-u.invariant c.in-None.ensures)

pub after_terms-loop-u-preserved : goal.after_terms-loop-u-preserved
after_terms-loop-u-preserved t c = spent_next (substitute 0 (value_at (map (term_at (entry_terms c.args.self.now)) c.args.args.now))) c.deref-u-items.result.now c.loop-u.u-index c.u-item.result c.args.left c.loop-u.rest c.in-Some.less c.loop-u-test.true c.u-item.is c.loop-u.invariant c.in-Some.ensures
