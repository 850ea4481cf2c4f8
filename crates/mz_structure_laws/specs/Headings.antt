-- A structure with what is written behind it, as one tree, and what holds of it.
use Rattle.std.specs.Prelude.{ℕ, List}
use Rattle.mz_ground.specs.Table.{Extends}
use Rattle.mz_ground.specs.declared.clause.Clause.{Clause}
use Rattle.mz_loci_laws.specs.Block.{StandsInBlock}
use Rattle.mz_standing.specs.declared.standing.Standing.{Standing}
use Rattle.mz_standing_laws.specs.Soundly.{Setting, AreDecided}
use Rattle.mz_taken.specs.Taken.{Taken, Made, Refused}
use Rattle.mz_tree_heading.specs.declared.structure.StructureTree.{StructureTree}
use Rattle.mz_tree_item.specs.declared.definition.ConditionOrPropertyTree.{ConditionOrPropertyTree}
use Rattle.mz_structure.specs.Structures.{Structures}

abbrev pub StructureHeading : Type 0
StructureHeading = StructureTree × List ConditionOrPropertyTree

-- in a block whose loci are the constants with the numbers from `least` on
abbrev pub TakesStructure : ℕ → Standing → StructureHeading → Taken Standing → Type 0
TakesStructure least s h w = Structures least s h.0 h.1 w

-- where the article stood soundly in the block it does behind, as soon as the obligations are decided
abbrev pub KeepsInBlock : Setting → ℕ → Taken Standing → Type 0
KeepsInBlock g least (Made os t) = (final : List Clause) → Extends t.clauses final → AreDecided final os → StandsInBlock g least t
KeepsInBlock g least (Refused r) = Unit {0}

abbrev pub StructureKeepsLaw : Type 0
StructureKeepsLaw = (g : Setting) (least : ℕ) (s : Standing) (h : StructureHeading) (w : Taken Standing) → StandsInBlock g least s → TakesStructure least s h w → KeepsInBlock g least w
