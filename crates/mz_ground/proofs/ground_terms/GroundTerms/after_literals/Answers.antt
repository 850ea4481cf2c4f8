use Rattle.std.proofs.Common.{None, List, map, ◌∙◌, subst}
use Rattle.mz_logic.specs.declared.literal.Literal.{Literal}
use Rattle.mz_ground.specs.Ground.{term_at}
use Rattle.mz_ground.specs.Instance.{literal_at, literals_nodes}
use Rattle.mz_ground.specs.Nodes.{IsSpent}
use Rattle.mz_ground.specs.Table.{entry_terms}
use Rattle.mz_ground.proofs.NodeLemmas.{spent_next_literal, spent_over_literal}
use Rattle.mz_ground.proofs.ground_terms.GroundTerms.after_literals.Goals as goal

pub returns-in-None : goal.returns-in-None
returns-in-None c = subst (λ (xs : List Literal). IsSpent c.args.left (literals_nodes (map (literal_at (map (term_at (entry_terms c.args.self.now)) c.args.args.now)) xs)) None) (c.deref-item-items.ensures.value ∙ c.ls.view_is) (spent_over_literal (literal_at (map (term_at (entry_terms c.args.self.now)) c.args.args.now)) c.deref-item-items.result.now c.loop-item.item-index c.item-item.result c.args.left c.loop-item.rest c.loop-item-test.true c.item-item.is c.loop-item.invariant c.in-None.ensures)

pub loop-item-preserved : goal.loop-item-preserved
loop-item-preserved c = spent_next_literal (literal_at (map (term_at (entry_terms c.args.self.now)) c.args.args.now)) c.deref-item-items.result.now c.loop-item.item-index c.item-item.result c.args.left c.loop-item.rest c.in-Some.less c.loop-item-test.true c.item-item.is c.loop-item.invariant c.in-Some.ensures
