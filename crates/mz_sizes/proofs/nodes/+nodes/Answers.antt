use Rattle.std.proofs.Common.{None, List, ◌∙◌, subst}
use Rattle.mz_logic.specs.Term.{Term, terms_of}
use Rattle.mz_ground.specs.Instance.{args_nodes}
use Rattle.mz_ground.specs.Nodes.{IsSpent}
use Rattle.mz_sizes.proofs.SpentLemmas.{told_next_term, told_over_term}
use Rattle.mz_sizes.proofs.nodes.+nodes.Goals as goal

pub after_terms-returns-in-None : goal.after_terms-returns-in-None
after_terms-returns-in-None t c =
    subst (λ (xs : List Term). IsSpent c.args.left (args_nodes (terms_of xs)) None) (c.deref-t-items.ensures.value ∙ c.ts.view_is)
    (told_over_term c.deref-t-items.result.now c.loop-t.t-index c.t-item.result c.args.left c.loop-t.rest c.loop-t-test.true c.t-item.is c.loop-t.invariant c.in-None.ensures)

pub after_terms-loop-t-preserved : goal.after_terms-loop-t-preserved
after_terms-loop-t-preserved t c =
    told_next_term c.deref-t-items.result.now c.loop-t.t-index c.t-item.result c.args.left c.loop-t.rest c.in-Some.less c.loop-t-test.true c.t-item.is c.loop-t.invariant c.in-Some.ensures
