-- The parameters of a scheme, read and declared one after another.
use Rattle.std.specs.Prelude.{ℕ, if◌then◌else◌, List, [], ◌∷◌, ◌++◌, Option, Some, None, Result, Ok, Err}
use Rattle.mz_base.specs.declared.place.Place.{Place}
use Rattle.mz_core.specs.declared.outcome.Left.{Left}
use Rattle.mz_core.specs.declared.soft_type.SoftType.{SoftType}
use Rattle.mz_context.specs.declared.context.Context.{Context}
use Rattle.mz_environment.specs.declared.environment.Environment.{Environment}
use Rattle.mz_names.specs.declared.refusal.Refusal.{Refusal}
use Rattle.mz_names.specs.declared.refusal.Refusal.TheVariants.{TooLarge}
use Rattle.mz_resolve.specs.Calls.{TypeRead}
use Rattle.mz_cited.specs.Cited.{members}
use Rattle.mz_justified.specs.declared.proof_fault.ProofRefusal.TheVariants.{Resolve}
use Rattle.mz_places.specs.Places.{PlacesRead}
use Rattle.mz_letters.specs.Letters.{next_functor_letter, with_functor_letters, with_predicate_letters, letter_keeps}
use Rattle.mz_taken.specs.OneByOne.{OneByOne}
use Rattle.mz_taken.specs.Taken.{Taken, Made, Refused}
use Rattle.mz_taken.specs.declared.item_fault.ItemRefusal.TheVariants.{Proof}
use Rattle.mz_tree.specs.Trees.{TypeData}
use Rattle.mz_tree.specs.declared.lists.Separated.{Separated}
use Rattle.mz_tree_heading.specs.declared.patterns.IdentifierTree.{IdentifierTree}
use Rattle.mz_tree_part.specs.declared.parameter.ParameterTree.{ParameterTree}
use Rattle.mz_tree_part.specs.declared.parameter.ParameterTree.TheVariants.{Functor, Predicate}

-- the letters in force, with all else that is known, and what the article has left
pub record Scope : Type 0 where
  pub context : Context
  pub left : Left

abbrev pub scope : Context → Left → Scope
scope c left = record { context = c; left = left }

-- the place of a parameter: that of its first identifier
abbrev pub parameter_place : Separated IdentifierTree → Place
parameter_place ws = ws.first.name.place

-- functor letters with these types are declared, where what is owed by the types is within the limits
abbrev pub functors_declared : Context → Separated IdentifierTree → List SoftType → SoftType → Taken Context
functors_declared c ws tys ty =
    if letter_keeps (next_functor_letter c) tys ty then Made [] (with_functor_letters c tys ty (members ws)) else Refused (Proof (Resolve (TooLarge (parameter_place ws))))

abbrev pub with_what_is_left : Left → Taken Context → Taken Scope
with_what_is_left left (Made os c) = Made os (scope c left)
with_what_is_left left (Refused r) = Refused r

-- The types of the places of functor letters are read, and then their own, each once; then a letter is declared for each identifier.
pub data TakesFunctors (e : Environment) (least : ℕ) (s : Scope) (ws : Separated IdentifierTree) (ts : Option (Separated TypeData)) (t : TypeData) : Taken Scope → Type 0 where
  places_refused : (r : Refusal) (after : Left) → PlacesRead e s.context least s.left ts (Err r) after → TakesFunctors e least s ws ts t (Refused (Proof (Resolve r)))
  type_refused : (tys : List SoftType) (between : Left) (r : Refusal) (after : Left) → PlacesRead e s.context least s.left ts (Ok tys) between → TypeRead e s.context least between t (Err r) after →
      TakesFunctors e least s ws ts t (Refused (Proof (Resolve r)))
  type_read : (tys : List SoftType) (between : Left) (ty : SoftType) (after : Left) → PlacesRead e s.context least s.left ts (Ok tys) between → TypeRead e s.context least between t (Ok ty) after →
      TakesFunctors e least s ws ts t (with_what_is_left after (functors_declared s.context ws tys ty))

-- The types of the places of predicate letters are read, each once; then a letter is declared for each identifier.
pub data TakesPredicates (e : Environment) (least : ℕ) (s : Scope) (ws : Separated IdentifierTree) (ts : Option (Separated TypeData)) : Taken Scope → Type 0 where
  places_refused : (r : Refusal) (after : Left) → PlacesRead e s.context least s.left ts (Err r) after → TakesPredicates e least s ws ts (Refused (Proof (Resolve r)))
  places_read : (tys : List SoftType) (after : Left) → PlacesRead e s.context least s.left ts (Ok tys) after → TakesPredicates e least s ws ts (Made [] (scope (with_predicate_letters s.context tys (members ws)) after))

-- a parameter, with the letters of those before it in force
pub data TakesParameter (e : Environment) (least : ℕ) (s : Scope) : ParameterTree → Taken Scope → Type 0 where
  functors : (ws : Separated IdentifierTree) (left right arrow : Place) (ts : Option (Separated TypeData)) (t : TypeData) (o : Taken Scope) →
      TakesFunctors e least s ws ts t o → TakesParameter e least s (Functor ws left ts right arrow t) o
  predicates : (ws : Separated IdentifierTree) (left right : Place) (ts : Option (Separated TypeData)) (o : Taken Scope) →
      TakesPredicates e least s ws ts o → TakesParameter e least s (Predicate ws left ts right) o

-- the parameters, one after another
abbrev pub TakesParameters : Environment → ℕ → Scope → List ParameterTree → Taken Scope → Type 0
TakesParameters e least = OneByOne (TakesParameter e least)
