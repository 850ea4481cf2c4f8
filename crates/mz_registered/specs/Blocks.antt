-- What comes of a block of registrations.
use Rattle.std.specs.Prelude.{ℕ, List, [], ◌∷◌}
use Rattle.mz_base.specs.declared.place.Place.{Place}
use Rattle.mz_context.specs.Context.{next}
use Rattle.mz_let.specs.Lets.{Lets}
use Rattle.mz_loci.specs.Loci.{behind_loci}
use Rattle.mz_standing.specs.Standing.{with_context}
use Rattle.mz_standing.specs.declared.standing.Standing.{Standing}
use Rattle.mz_taken.specs.Taken.{Taken, Made, Refused}
use Rattle.mz_taken.specs.OneByOne.{OneByOne}
use Rattle.mz_tree_item.specs.declared.definition.ConditionTree.{ConditionTree}
use Rattle.mz_tree_item.specs.declared.registration.RegistrationPartTree.{RegistrationPartTree}
use Rattle.mz_tree_item.specs.declared.registration.RegistrationPartTree.TheVariants.{Let, Cluster}
use Rattle.mz_tree_item.specs.declared.registration.RegistrationTree.{RegistrationTree}
use Rattle.mz_tree_part.specs.declared.cluster.ClusterTree.{ClusterTree}
use Rattle.mz_tree_part.specs.declared.notation.BlockLetTree.{BlockLetTree}
use Rattle.mz_registered.specs.Headings.{first_of_cluster, Heads}

-- a part with the place of the first token behind it
abbrev pub PlacedPart : Type 0
PlacedPart = RegistrationPartTree × Place

abbrev pub first_of_part : RegistrationPartTree → Place
first_of_part (Let t) = t.let_
first_of_part (Cluster t ws) = first_of_cluster t

-- the place of the first token of parts behind which `end` stands
abbrev pub first_of_parts : Place → List RegistrationPartTree → Place
first_of_parts end [] = end
first_of_parts end (p ∷ ps) = first_of_part p

abbrev pub with_places : Place → List RegistrationPartTree → List PlacedPart
with_places end [] = []
with_places end (p ∷ ps) = (p, first_of_parts end ps) ∷ with_places end ps

-- a part of a block whose loci are the constants from `least` on
pub data TakesPart (least : ℕ) (s : Standing) : PlacedPart → Taken Standing → Type 0 where
  loci : (t : BlockLetTree) (behind : Place) (o : Taken Standing) → Lets least s t o → TakesPart least s (Let t, behind) o
  heading : (t : ClusterTree) (ws : List ConditionTree) (behind : Place) (o : Taken Standing) → Heads least s t ws behind o → TakesPart least s (Cluster t ws, behind) o

-- behind the block its loci are out of force
abbrev pub ended : ℕ → Taken Standing → Taken Standing
ended least (Made os t) = Made os (with_context t (behind_loci t.context least))
ended least (Refused r) = Refused r

-- a block of registrations: its parts are taken one after another, each where the one before it has led to; its loci are the constants
-- that come into force in it
pub data TakesBlock (s : Standing) (t : RegistrationTree) : Taken Standing → Type 0 where
  block : (o : Taken Standing) → OneByOne (TakesPart (next s.context)) s (with_places t.end t.parts) o → TakesBlock s t (ended (next s.context) o)
