-- Laws of properties behind the heading of an item.
use Rattle.std.specs.Prelude.{◌≡◌, ℕ, true, List, length}
use Rattle.mz_core.specs.declared.item.Item.{Item}
use Rattle.mz_ground.specs.Table.{Extends}
use Rattle.mz_ground.specs.declared.clause.Clause.{Clause}
use Rattle.mz_items.specs.Closed.{item_closed}
use Rattle.mz_items.specs.Items.{loci_of}
use Rattle.mz_loci.specs.Loci.{loci_from, locus_types}
use Rattle.mz_loci_laws.specs.Block.{StandsInBlock}
use Rattle.mz_obligations.specs.declared.obligation.Obligation.{Obligation}
use Rattle.mz_owed.specs.declared.owed.Owed.{Owed}
use Rattle.mz_properties.specs.Properties.{TakesAllFurther}
use Rattle.mz_standing.specs.declared.standing.Standing.{Standing}
use Rattle.mz_standing_laws.specs.Kinds.{GrowsLaw}
use Rattle.mz_standing_laws.specs.Soundly.{Setting, AreDecided}
use Rattle.mz_taken.specs.OneByOne.{OneLaw}
use Rattle.mz_taken.specs.Taken.{Made}
use Rattle.mz_tree_item.specs.declared.definition.ConditionOrPropertyTree.{ConditionOrPropertyTree}

-- how many loci the block has, the constants from `least` on
abbrev pub block_count : ℕ → Standing → ℕ
block_count least s = length (loci_from least s.context.constants)

-- an item of a heading of the block: it has the block's loci, and no constant and no loose index
pub record IsOfBlock (least : ℕ) (s : Standing) (x : Item) : Type 0 where
  pub closed : item_closed x ≡ true
  pub loci : loci_of x ≡ locus_types least (loci_from least s.context.constants)

-- the clauses only grow
abbrev pub PropertiesGrowLaw : Type 0
PropertiesGrowLaw = (least count : ℕ) (x : Item) (owed : Owed) → GrowsLaw (TakesAllFurther least count x owed)

-- where an article stood soundly but for the loci of the block, it does behind, if the obligations are decided by clauses that begin with those
-- behind
abbrev pub PropertiesKeepLaw : Type 0
PropertiesKeepLaw =
    (g : Setting) (least : ℕ) (s u : Standing) (x : Item) (owed : Owed) (ws : List ConditionOrPropertyTree) (os : List Obligation) (final : List Clause) → StandsInBlock g least s → IsOfBlock least s x →
    TakesAllFurther least (block_count least s) x owed s ws (Made os u) → Extends u.clauses final → AreDecided final os → StandsInBlock g least u

-- one thing at most comes of it
abbrev pub OnePropertiesLaw : Type 0
OnePropertiesLaw = (least count : ℕ) (x : Item) (owed : Owed) → OneLaw (TakesAllFurther least count x owed)
