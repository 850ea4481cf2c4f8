-- Laws of headings of definitions.
use Rattle.std.specs.Prelude.{ℕ, List}
use Rattle.mz_base.specs.declared.place.Place.{Place}
use Rattle.mz_ground.specs.Table.{Extends}
use Rattle.mz_ground.specs.declared.clause.Clause.{Clause}
use Rattle.mz_justified_laws.specs.Determined.{AtMostOne}
use Rattle.mz_standing.specs.declared.standing.Standing.{Standing}
use Rattle.mz_standing_laws.specs.Soundly.{Setting, AreDecided}
use Rattle.mz_standing_laws.specs.Kinds.{HasGrown}
use Rattle.mz_taken.specs.Taken.{Taken, Made, Refused}
use Rattle.mz_tree_item.specs.declared.definition.ConditionOrPropertyTree.{ConditionOrPropertyTree}
use Rattle.mz_loci_laws.specs.Block.{StandsInBlock}

-- it stands soundly but for the loci of the block, where the obligations are decided by clauses that begin with those behind
abbrev pub KeepsInBlock : Setting → ℕ → Taken Standing → Type 0
KeepsInBlock g least (Made os t) = (final : List Clause) → Extends t.clauses final → AreDecided final os → StandsInBlock g least t
KeepsInBlock g least (Refused r) = Unit {0}

-- laws of a kind of heading, of which `takes` says what comes: the clauses only grow
abbrev pub HeadingGrowsLaw : {T : Type 0} → (ℕ → Standing → T → List ConditionOrPropertyTree → Place → Taken Standing → Type 0) → Type 0
HeadingGrowsLaw {T} takes = (least : ℕ) (s : Standing) (t : T) (ws : List ConditionOrPropertyTree) (behind : Place) (w : Taken Standing) → takes least s t ws behind w → HasGrown s w

-- where it stood soundly but for the loci it does behind
abbrev pub HeadingKeepsLaw : {T : Type 0} → (ℕ → Standing → T → List ConditionOrPropertyTree → Place → Taken Standing → Type 0) → Type 0
HeadingKeepsLaw {T} takes =
    (g : Setting) (least : ℕ) (s : Standing) (t : T) (ws : List ConditionOrPropertyTree) (behind : Place) (w : Taken Standing) → StandsInBlock g least s → takes least s t ws behind w → KeepsInBlock g least w

-- one thing at most comes of it
abbrev pub OneHeadingLaw : {T : Type 0} → (ℕ → Standing → T → List ConditionOrPropertyTree → Place → Taken Standing → Type 0) → Type 0
OneHeadingLaw {T} takes = (least : ℕ) (s : Standing) (t : T) (ws : List ConditionOrPropertyTree) (behind : Place) → AtMostOne (takes least s t ws behind)
