-- Laws of private functors and predicates: each is read to one thing at most, and behind what is read one thing is left.
use Rattle.std.specs.Prelude.{ℕ, Option}
use Rattle.mz_core.specs.declared.outcome.Left.{Left}
use Rattle.mz_context.specs.declared.context.Context.{Context}
use Rattle.mz_environment.specs.declared.environment.Environment.{Environment}
use Rattle.mz_tree.specs.Trees.{TypeData}
use Rattle.mz_tree.specs.declared.lists.Separated.{Separated}
use Rattle.mz_tree_proof.specs.declared.introduction.DeffuncTree.{DeffuncTree}
use Rattle.mz_tree_proof.specs.declared.introduction.DefpredTree.{DefpredTree}
use Rattle.mz_places.specs.Places.{PlacesRead}
use Rattle.mz_private.specs.Private.{FunctorRead, PredicateRead}
use Rattle.mz_justified_laws.specs.Determined.{IsDetermined}

abbrev pub OnePlacesLaw : Type 0
OnePlacesLaw = (e : Environment) (c : Context) (least : ℕ) (left : Left) (ts : Option (Separated TypeData)) → IsDetermined (PlacesRead e c least left ts)

abbrev pub OneFunctorLaw : Type 0
OneFunctorLaw = (e : Environment) (c : Context) (least : ℕ) (left : Left) (t : DeffuncTree) → IsDetermined (FunctorRead e c least left t)

abbrev pub OnePredicateLaw : Type 0
OnePredicateLaw = (e : Environment) (c : Context) (least : ℕ) (left : Left) (t : DefpredTree) → IsDetermined (PredicateRead e c least left t)
