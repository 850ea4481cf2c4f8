-- What adjectives are read to.
use Rattle.std.specs.Prelude.{◌≡◌, ℕ, Bool, List, [], ◌∷◌, ◌++◌, Option, Some, Result, Ok, Err}
use Rattle.mz_base.specs.declared.place.Place.{Place}
use Rattle.mz_logic.specs.Term.{Term}
use Rattle.mz_core.specs.declared.adjective.Adjective.{Adjective}
use Rattle.mz_context.specs.declared.context.Context.{Context}
use Rattle.mz_environment.specs.declared.environment.Environment.{Environment}
use Rattle.mz_names.specs.Names.{variable, known_or, is_some}
use Rattle.mz_names.specs.declared.refusal.Refusal.{Refusal}
use Rattle.mz_choice.specs.declared.choice.Wanted.{Wanted}
use Rattle.mz_tree.specs.Trees.{TermsData, AdjectiveData, PlainAdjective, WithIdentifierAdjective, WithTermsAdjective}
use Rattle.mz_tree.specs.Places.{first_place}
use Rattle.mz_tree.specs.Spell.{spell_adjective}
use Rattle.mz_tree.specs.declared.word.Word.{Word}
use Rattle.mz_applied.specs.Application.{attribute_of}
use Rattle.mz_applied.specs.Meant.{as_adjective}
use Rattle.mz_applied.specs.Reading.{ReadsAs}
use Rattle.mz_terms.specs.Values.{as_list}
use Rattle.mz_terms.specs.Terms.{ReadsAll}

-- whether it is written with `non`
abbrev pub is_denied : AdjectiveData → Bool
is_denied (PlainAdjective non w) = is_some non
is_denied (WithIdentifierAdjective non x w) = is_some non
is_denied (WithTermsAdjective non p ts q w) = is_some non

-- its symbol
abbrev pub attribute_in : AdjectiveData → Word
attribute_in (PlainAdjective non w) = w
attribute_in (WithIdentifierAdjective non x w) = w
attribute_in (WithTermsAdjective non p ts q w) = w

-- its arguments, which are an identifier or stand in parentheses
pub data ReadsOwn (e : Environment) (c : Context) (least : ℕ) : AdjectiveData → Result (List Term) Refusal → Type 0 where
  plain : (non : Option Place) (w : Word) → ReadsOwn e c least (PlainAdjective non w) (Ok [])
  with_identifier : (non : Option Place) (x w : Word) → ReadsOwn e c least (WithIdentifierAdjective non x w) (as_list (known_or x.place (variable least c x.spelling)))
  with_terms : (non : Option Place) (p q : Place) (ts : TermsData) (w : Word) (o : Result (List Term) Refusal) → ReadsAll e c least ts o → ReadsOwn e c least (WithTermsAdjective non p ts q w) o

-- an adjective that is wanted of the subject
pub data ReadsAdjective (e : Environment) (c : Context) (least : ℕ) (wanted : Wanted) (subject : Term) : AdjectiveData → Result Adjective Refusal → Type 0 where
  own_refused : (a : AdjectiveData) (r : Refusal) → ReadsOwn e c least a (Err r) → ReadsAdjective e c least wanted subject a (Err r)
  own_read : (a : AdjectiveData) (ts : List Term) (first : Place) (o : Result Adjective Refusal) → ReadsOwn e c least a (Ok ts) → first_place (spell_adjective a) ≡ Some first →
      ReadsAs e c wanted (attribute_in a).place (as_adjective (is_denied a) (attribute_in a).place first) (attribute_of (attribute_in a).spelling ts subject) o →
      ReadsAdjective e c least wanted subject a o

-- adjectives one after another, those before them being read
pub data ReadsAdjectives (e : Environment) (c : Context) (least : ℕ) (wanted : Wanted) (subject : Term) : List AdjectiveData → List Adjective → Result (List Adjective) Refusal → Type 0 where
  no_more : (before : List Adjective) → ReadsAdjectives e c least wanted subject [] before (Ok before)
  one_refused : (a : AdjectiveData) (xs : List AdjectiveData) (before : List Adjective) (r : Refusal) → ReadsAdjective e c least wanted subject a (Err r) → ReadsAdjectives e c least wanted subject (a ∷ xs) before (Err r)
  one_read : (a : AdjectiveData) (xs : List AdjectiveData) (before : List Adjective) (b : Adjective) (o : Result (List Adjective) Refusal) → ReadsAdjective e c least wanted subject a (Ok b) → ReadsAdjectives e c least wanted subject xs (before ++ b ∷ []) o → ReadsAdjectives e c least wanted subject (a ∷ xs) before o
