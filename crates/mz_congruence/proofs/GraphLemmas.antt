-- The graph that is made is that of the ground part.
use Rattle.std.proofs.Common.{◌≡◌, List}
use Rattle.std.specs.Prelude.{Contains, ◌↔◌}
use Rattle.mz_logic.specs.declared.disjunct.Disjunct.{Disjunct}
use Rattle.mz_ground.specs.Ground.{IsGround}
use Rattle.mz_ground.specs.declared.clause.Clause.{Clause}
use Rattle.mz_ground.specs.declared.ground_part.Ground.{Ground}
use Rattle.mz_congruence.specs.declared.numbering.Layout.{Layout}
use Rattle.mz_congruence.specs.declared.graph.Node.{Node}
use Rattle.mz_congruence.specs.declared.graph.Rule.{Rule}
use Rattle.mz_congruence.specs.Nodes.{nodes_of}
use Rattle.mz_congruence.specs.Codes.{IsRule, IsGraph}
use Rattle.mz_congruence.specs.Layout.{IsLayout}
use Rattle.mz_congruence.specs.GroundGraph.{IsGroundGraph}
use Rattle.mz_congruence.proofs.UpLemmas.{graph_within}

pub graph_made : (d : Disjunct) (cs : List Clause) (g : Ground) (layout : Layout) (nodes : List Node) (rules : List Rule) → IsGround d cs g → nodes ≡ nodes_of g → IsLayout g layout → ((r : Rule) → Contains rules r ↔ IsRule d cs g r) → IsGroundGraph d cs g (record { graph = record { nodes = nodes; rules = rules }; layout = layout })
graph_made d cs g layout nodes rules gr e l h =
    let here : IsGraph d cs g (record { nodes = nodes; rules = rules }) = record { nodes = e; sound = λ r c. (h r).0 c; complete = λ r i. (h r).1 i } in
    record { graph = here; within = graph_within d cs g gr (record { nodes = nodes; rules = rules }) here; layout = l }
