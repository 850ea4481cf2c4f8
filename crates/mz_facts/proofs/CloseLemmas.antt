-- The facts that are made are those of the disjunct.
use Rattle.std.proofs.Common.{List}
use Rattle.mz_logic.specs.declared.disjunct.Disjunct.{Disjunct}
use Rattle.mz_ground.specs.Ground.{IsGround}
use Rattle.mz_ground.specs.FactSet.{HasFacts}
use Rattle.mz_ground.specs.declared.clause.Clause.{Clause}
use Rattle.mz_ground.specs.declared.ground_part.Ground.{Ground}
use Rattle.mz_congruence.specs.declared.fact_table.FactTable.{FactTable}
use Rattle.mz_congruence.specs.declared.ground_graph.GroundGraph.{GroundGraph}
use Rattle.mz_congruence.specs.FactTable.{table_view}
use Rattle.mz_congruence.specs.GroundGraph.{IsGroundGraph, HasFactsOf}

pub told_facts : (d : Disjunct) (cs : List Clause) (g : Ground) (graph : GroundGraph) (table : FactTable) → IsGround d cs g → IsGroundGraph d cs g graph → HasFactsOf g graph table → HasFacts d cs (table_view table)
unfolding HasFactsOf
told_facts d cs g graph table gr gg h = h d cs gr gg
