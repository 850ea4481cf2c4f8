-- The graph of a ground part, and the facts that its classes give.
use Rattle.std.specs.Prelude.{List}
use Rattle.mz_logic.specs.declared.disjunct.Disjunct.{Disjunct}
use Rattle.mz_ground.specs.Ground.{IsGround}
use Rattle.mz_ground.specs.FactSet.{HasFacts}
use Rattle.mz_ground.specs.declared.clause.Clause.{Clause}
use Rattle.mz_ground.specs.declared.ground_part.Ground.{Ground}
use Rattle.mz_congruence.specs.declared.ground_graph.GroundGraph.{GroundGraph}
use Rattle.mz_congruence.specs.declared.fact_table.FactTable.{FactTable}
use Rattle.mz_congruence.specs.Layout.{IsLayout}
use Rattle.mz_congruence.specs.Closing.{IsWithin}
use Rattle.mz_congruence.specs.Codes.{IsGraph}
use Rattle.mz_congruence.specs.FactTable.{table_view}

-- the nodes are those of the ground part, the rules those of the disjunct and the clauses over it
pub record IsGroundGraph (d : Disjunct) (cs : List Clause) (g : Ground) (r : GroundGraph) : Type 0 where
  pub graph : IsGraph d cs g r.graph
  pub within : IsWithin r.graph
  pub layout : IsLayout g r.layout

-- f holds the facts of whatever disjunct and clauses the graph is of
unfoldable pub HasFactsOf : Ground → GroundGraph → FactTable → Type 0
HasFactsOf g r f = (d : Disjunct) (cs : List Clause) → IsGround d cs g → IsGroundGraph d cs g r → HasFacts d cs (table_view f)
