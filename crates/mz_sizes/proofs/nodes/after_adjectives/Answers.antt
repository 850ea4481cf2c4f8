use Rattle.std.proofs.Common.{None, List, ◌∙◌, subst}
use Rattle.mz_core.specs.declared.adjective.Adjective.{Adjective}
use Rattle.mz_ground.specs.Nodes.{IsSpent}
use Rattle.mz_sizes.specs.Sizes.{adjectives_nodes}
use Rattle.mz_sizes.proofs.SpentLemmas.{told_next_adjective, told_over_adjective}
use Rattle.mz_sizes.proofs.nodes.after_adjectives.Goals as goal

pub returns-in-None : goal.returns-in-None
returns-in-None c =
    subst (λ (xs : List Adjective). IsSpent c.args.left (adjectives_nodes xs) None) (c.deref-a-items.ensures.value ∙ c.xs.view_is)
    (told_over_adjective c.deref-a-items.result.now c.loop-a.a-index c.a-item.result c.args.left c.loop-a.rest c.loop-a-test.true c.a-item.is c.loop-a.invariant c.in-None.ensures)

pub loop-a-preserved : goal.loop-a-preserved
loop-a-preserved c =
    told_next_adjective c.deref-a-items.result.now c.loop-a.a-index c.a-item.result c.args.left c.loop-a.rest c.in-Some.less c.loop-a-test.true c.a-item.is c.loop-a.invariant c.in-Some.ensures
