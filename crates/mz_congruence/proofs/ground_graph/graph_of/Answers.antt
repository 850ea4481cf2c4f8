use Rattle.mz_congruence.proofs.GraphLemmas.{graph_made}
use Rattle.mz_congruence.proofs.ground_graph.graph_of.Goals as goal

pub returns : goal.returns
returns c = graph_made _ _ _ _ _ _ c.requires c.in_ok-nodes.ensures.nodes c.in_ok-nodes.ensures.layout c.in_ok-rules.ensures
