-- What types are read to.
use Rattle.std.specs.Prelude.{◌≡◌, ℕ, List, [], ◌++◌, Some, Result, Ok, Err}
use Rattle.mz_base.specs.declared.place.Place.{Place}
use Rattle.mz_logic.specs.Term.{Term, Const}
use Rattle.mz_logic.specs.declared.kind.Kind.{Kind}
use Rattle.mz_logic.specs.declared.kind.Kind.TheVariants.{Mode, Structure}
use Rattle.mz_core.specs.declared.adjective.Adjective.{Adjective}
use Rattle.mz_core.specs.declared.soft_type.SoftType.{SoftType}
use Rattle.mz_context.specs.declared.context.Context.{Context}
use Rattle.mz_context.specs.Context.{next}
use Rattle.mz_environment.specs.declared.environment.Environment.{Environment}
use Rattle.mz_types.specs.Known.{typing}
use Rattle.mz_names.specs.declared.refusal.Refusal.{Refusal}
use Rattle.mz_names.specs.declared.refusal.Refusal.TheVariants.{Unregistered}
use Rattle.mz_choice.specs.Cover.{bare, IsCovered}
use Rattle.mz_choice.specs.Fresh.{with_fresh}
use Rattle.mz_choice.specs.declared.choice.Wanted.TheVariants.{Anything, AdjectiveOfFresh}
use Rattle.mz_sizes.specs.Sizes.{type_keeps}
use Rattle.mz_tree.specs.Trees.{TermsData, TypeData, AdjectiveData, AdjectiveList, ModeType, ModeOfType, StructureType, StructureOverType, adjectives_of}
use Rattle.mz_tree.specs.Places.{first_place}
use Rattle.mz_tree.specs.Spell.{spell_type}
use Rattle.mz_tree.specs.declared.word.Word.{Word}
use Rattle.mz_applied.specs.Within.{within}
use Rattle.mz_applied.specs.Application.{application}
use Rattle.mz_applied.specs.Meant.{as_type}
use Rattle.mz_applied.specs.Reading.{ReadsAs}
use Rattle.mz_terms.specs.Terms.{ReadsAll}
use Rattle.mz_terms.specs.Adjectives.{ReadsAdjectives}

-- the parts of a type
abbrev pub adjectives_in : TypeData → AdjectiveList
adjectives_in (ModeType xs w) = xs
adjectives_in (ModeOfType xs w p ts) = xs
adjectives_in (StructureType xs w) = xs
adjectives_in (StructureOverType xs w p ts) = xs

abbrev pub radix_in : TypeData → Word
radix_in (ModeType xs w) = w
radix_in (ModeOfType xs w p ts) = w
radix_in (StructureType xs w) = w
radix_in (StructureOverType xs w p ts) = w

abbrev pub radix_kind : TypeData → Kind
radix_kind (ModeType xs w) = Mode
radix_kind (ModeOfType xs w p ts) = Mode
radix_kind (StructureType xs w) = Structure
radix_kind (StructureOverType xs w p ts) = Structure

-- the radix' arguments
pub data ReadsRadixTerms (e : Environment) (c : Context) (least : ℕ) : TypeData → Result (List Term) Refusal → Type 0 where
  of_mode : (xs : AdjectiveList) (w : Word) → ReadsRadixTerms e c least (ModeType xs w) (Ok [])
  of_mode_of : (xs : AdjectiveList) (w : Word) (p : Place) (ts : TermsData) (o : Result (List Term) Refusal) → ReadsAll e c least ts o → ReadsRadixTerms e c least (ModeOfType xs w p ts) o
  of_structure : (xs : AdjectiveList) (w : Word) → ReadsRadixTerms e c least (StructureType xs w) (Ok [])
  of_structure_over : (xs : AdjectiveList) (w : Word) (p : Place) (ts : TermsData) (o : Result (List Term) Refusal) → ReadsAll e c least ts o → ReadsRadixTerms e c least (StructureOverType xs w p ts) o

-- the radix, which may stand for a type with adjectives
pub data ReadsRadix (e : Environment) (c : Context) (least : ℕ) (ty : TypeData) : Result SoftType Refusal → Type 0 where
  terms_refused : (r : Refusal) → ReadsRadixTerms e c least ty (Err r) → ReadsRadix e c least ty (Err r)
  terms_read : (ts : List Term) (o : Result SoftType Refusal) → ReadsRadixTerms e c least ty (Ok ts) →
      ReadsAs e c Anything (radix_in ty).place (as_type (radix_in ty).place) (application (radix_kind ty) (radix_in ty).spelling [] ts) o → ReadsRadix e c least ty o

-- the written adjectives before those that the radix stands for
abbrev pub with_adjectives : List Adjective → SoftType → SoftType
with_adjectives xs ty = record { adjectives = xs ++ ty.adjectives; radix = ty.radix }

-- the type's adjectives: each is one of a fresh constant of the type's radix
abbrev pub ReadsWritten : Environment → Context → ℕ → SoftType → List AdjectiveData → Result (List Adjective) Refusal → Type 0
ReadsWritten e c least ty xs o = ReadsAdjectives e (with_fresh c (bare ty)) least (AdjectiveOfFresh (next c)) (Const (next c)) xs [] o

-- a type: its radix, and then its adjectives from left to right; nothing is asked of their cover
pub data ReadsParts (e : Environment) (c : Context) (least : ℕ) (ty : TypeData) : Result SoftType Refusal → Type 0 where
  radix_refused : (r : Refusal) → ReadsRadix e c least ty (Err r) → ReadsParts e c least ty (Err r)
  adjectives_refused : (t : SoftType) (xs : List AdjectiveData) (r : Refusal) → ReadsRadix e c least ty (Ok t) → adjectives_in ty ≡ adjectives_of xs → ReadsWritten e c least t xs (Err r) → ReadsParts e c least ty (Err r)
  parts_read : (t : SoftType) (xs : List AdjectiveData) (ys : List Adjective) → ReadsRadix e c least ty (Ok t) → adjectives_in ty ≡ adjectives_of xs → ReadsWritten e c least t xs (Ok ys) → ReadsParts e c least ty (Ok (with_adjectives ys t))

-- a type that must be covered
pub data ReadsType (e : Environment) (c : Context) (least : ℕ) (ty : TypeData) : Result SoftType Refusal → Type 0 where
  refused : (r : Refusal) → ReadsParts e c least ty (Err r) → ReadsType e c least ty (Err r)
  uncovered : (t : SoftType) (first : Place) → ReadsParts e c least ty (Ok t) → first_place (spell_type ty) ≡ Some first → ¬ IsCovered (typing e c) e c t → ReadsType e c least ty (Err (Unregistered first))
  covered : (t : SoftType) (first : Place) → ReadsParts e c least ty (Ok t) → first_place (spell_type ty) ≡ Some first → IsCovered (typing e c) e c t → ReadsType e c least ty (within type_keeps first t)

-- the type of an existential registration, which needs no cover
pub data ReadsRegistered (e : Environment) (c : Context) (least : ℕ) (ty : TypeData) : Result SoftType Refusal → Type 0 where
  not_registered : (r : Refusal) → ReadsParts e c least ty (Err r) → ReadsRegistered e c least ty (Err r)
  registered : (t : SoftType) (first : Place) → ReadsParts e c least ty (Ok t) → first_place (spell_type ty) ≡ Some first → ReadsRegistered e c least ty (within type_keeps first t)
