-- Laws of the reading of terms, adjectives and types.
use Rattle.std.specs.Prelude.{◌≡◌, ℕ, List, Result}
use Rattle.mz_logic.specs.Term.{Term}
use Rattle.mz_core.specs.declared.adjective.Adjective.{Adjective}
use Rattle.mz_core.specs.declared.soft_type.SoftType.{SoftType}
use Rattle.mz_context.specs.declared.context.Context.{Context}
use Rattle.mz_environment.specs.declared.environment.Environment.{Environment}
use Rattle.mz_names.specs.declared.refusal.Refusal.{Refusal}
use Rattle.mz_choice.specs.declared.choice.Wanted.{Wanted}
use Rattle.mz_tree.specs.Trees.{TermData, TermsData, AdjectiveData, TypeData}
use Rattle.mz_terms.specs.Terms.{ReadsTerm, ReadsAll}
use Rattle.mz_terms.specs.Adjectives.{ReadsOwn, ReadsAdjectives}
use Rattle.mz_terms.specs.Types.{ReadsType, ReadsRegistered}

-- what a term is read to is determined, and so is what terms are
abbrev pub OneTermLaw : Type 0
OneTermLaw = (e : Environment) (c : Context) (least : ℕ) (t : TermData) (o p : Result Term Refusal) → ReadsTerm e c least t o → ReadsTerm e c least t p → o ≡ p

abbrev pub OneListLaw : Type 0
OneListLaw = (e : Environment) (c : Context) (least : ℕ) (ts : TermsData) (o p : Result (List Term) Refusal) → ReadsAll e c least ts o → ReadsAll e c least ts p → o ≡ p

-- what an adjective's arguments are, and adjectives of what they are wanted of
abbrev pub OneOwnLaw : Type 0
OneOwnLaw = (e : Environment) (c : Context) (least : ℕ) (a : AdjectiveData) (o p : Result (List Term) Refusal) → ReadsOwn e c least a o → ReadsOwn e c least a p → o ≡ p

abbrev pub OneAdjectivesLaw : Type 0
OneAdjectivesLaw =
    (e : Environment) (c : Context) (least : ℕ) (w : Wanted) (t : Term) (xs : List AdjectiveData) (before : List Adjective) (o p : Result (List Adjective) Refusal) →
    ReadsAdjectives e c least w t xs before o → ReadsAdjectives e c least w t xs before p → o ≡ p

-- what a type is read to
abbrev pub OneTypeLaw : Type 0
OneTypeLaw = (e : Environment) (c : Context) (least : ℕ) (ty : TypeData) (o p : Result SoftType Refusal) → ReadsType e c least ty o → ReadsType e c least ty p → o ≡ p

abbrev pub OneRegisteredLaw : Type 0
OneRegisteredLaw = (e : Environment) (c : Context) (least : ℕ) (ty : TypeData) (o p : Result SoftType Refusal) → ReadsRegistered e c least ty o → ReadsRegistered e c least ty p → o ≡ p
