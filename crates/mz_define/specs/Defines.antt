-- What comes of a block of definitions, and of a block of notations.
use Rattle.std.specs.Prelude.{ℕ, List, [], ◌∷◌}
use Rattle.mz_base.specs.declared.place.Place.{Place}
use Rattle.mz_context.specs.Context.{next}
use Rattle.mz_let.specs.Lets.{Lets}
use Rattle.mz_loci.specs.Loci.{behind_loci}
use Rattle.mz_notations.specs.Notes.{NotesBlock}
use Rattle.mz_standing.specs.Standing.{with_context}
use Rattle.mz_standing.specs.declared.standing.Standing.{Standing}
use Rattle.mz_taken.specs.Taken.{Taken, Made, Refused}
use Rattle.mz_taken.specs.OneByOne.{OneByOne}
use Rattle.mz_tree_heading.specs.declared.heading.HeadingTree.{HeadingTree}
use Rattle.mz_tree_heading.specs.declared.heading.HeadingTree.TheVariants as tree
use Rattle.mz_tree_item.specs.declared.definition.ConditionOrPropertyTree.{ConditionOrPropertyTree}
use Rattle.mz_tree_item.specs.declared.definition.DefinitionPartTree.{DefinitionPartTree}
use Rattle.mz_tree_item.specs.declared.definition.DefinitionPartTree.TheVariants.{Let, Heading}
use Rattle.mz_tree_item.specs.declared.definition.DefinitionTree.{DefinitionTree}
use Rattle.mz_tree_part.specs.declared.notation.BlockLetTree.{BlockLetTree}
use Rattle.mz_tree_part.specs.declared.notation.NotationTree.{NotationTree}
use Rattle.mz_define.specs.Headings.{Heads}

-- a part with the place of the first token behind it
abbrev pub PlacedPart : Type 0
PlacedPart = DefinitionPartTree × Place

-- the places of the first tokens of headings and parts, and that of parts behind which `end` stands
abbrev pub first_of_heading : HeadingTree → Place
first_of_heading (tree.Functor t) = t.func
first_of_heading (tree.Predicate t) = t.pred
first_of_heading (tree.Attribute t) = t.attr
first_of_heading (tree.Mode t) = t.mode
first_of_heading (tree.Abbreviation t) = t.mode
first_of_heading (tree.Structure t) = t.struct_
first_of_heading (tree.RedefinedFunctor p t) = p
first_of_heading (tree.RedefinedPredicate p t) = p
first_of_heading (tree.RedefinedAttribute p t) = p
first_of_heading (tree.RedefinedMode p t) = p

abbrev pub first_of_part : DefinitionPartTree → Place
first_of_part (Let t) = t.let_
first_of_part (Heading t ws) = first_of_heading t

abbrev pub first_of_parts : Place → List DefinitionPartTree → Place
first_of_parts end [] = end
first_of_parts end (p ∷ ps) = first_of_part p

abbrev pub with_places : Place → List DefinitionPartTree → List PlacedPart
with_places end [] = []
with_places end (p ∷ ps) = (p, first_of_parts end ps) ∷ with_places end ps

-- a part of a block of definitions whose loci are the constants from `least` on
pub data TakesPart (least : ℕ) (s : Standing) : PlacedPart → Taken Standing → Type 0 where
  loci : (t : BlockLetTree) (behind : Place) (o : Taken Standing) → Lets least s t o → TakesPart least s (Let t, behind) o
  heading : (t : HeadingTree) (ws : List ConditionOrPropertyTree) (behind : Place) (o : Taken Standing) → Heads least s behind t ws o → TakesPart least s (Heading t ws, behind) o

-- behind the block its loci are out of force
abbrev pub ended : ℕ → Taken Standing → Taken Standing
ended least (Made os t) = Made os (with_context t (behind_loci t.context least))
ended least (Refused r) = Refused r

-- a block of definitions: its parts are taken one after another, each where the one before it has led to; its loci are the constants
-- that come into force in it
pub data Defines (s : Standing) (t : DefinitionTree) : Taken Standing → Type 0 where
  block : (o : Taken Standing) → OneByOne (TakesPart (next s.context)) s (with_places t.end t.parts) o → Defines s t (ended (next s.context) o)

-- a block of notations
abbrev pub Notes : Standing → NotationTree → Taken Standing → Type 0
Notes s t o = NotesBlock s t o
