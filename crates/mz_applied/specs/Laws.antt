-- Laws of applications.
use Rattle.std.specs.Prelude.{◌≡◌, ℕ, List, Result}
use Rattle.mz_base.specs.declared.place.Place.{Place}
use Rattle.mz_logic.specs.Term.{Term}
use Rattle.mz_core.specs.Statement.{Statement}
use Rattle.mz_core.specs.declared.adjective.Adjective.{Adjective}
use Rattle.mz_core.specs.declared.soft_type.SoftType.{SoftType}
use Rattle.mz_core.specs.declared.notation.Meaning.{Meaning}
use Rattle.mz_context.specs.declared.context.Context.{Context}
use Rattle.mz_environment.specs.declared.environment.Environment.{Environment}
use Rattle.mz_names.specs.declared.refusal.Refusal.{Refusal}
use Rattle.mz_choice.specs.declared.choice.Applied.{Applied}
use Rattle.mz_choice.specs.declared.choice.Wanted.{Wanted}
use Rattle.mz_applied.specs.Reading.{ReadsAs}
use Rattle.mz_applied.specs.Private.{AppliesFunctor, AppliesPredicate}

-- what a symbol applied to arguments is read to as a term, a type, an adjective or a statement is determined
abbrev pub OneTermLaw : Type 0
OneTermLaw =
    (e : Environment) (c : Context) (w : Wanted) (place : Place) (form : Meaning → Result Term Refusal) (a : Applied) (o p : Result Term Refusal) →
    ReadsAs e c w place form a o → ReadsAs e c w place form a p → o ≡ p

abbrev pub OneTypeLaw : Type 0
OneTypeLaw =
    (e : Environment) (c : Context) (w : Wanted) (place : Place) (form : Meaning → Result SoftType Refusal) (a : Applied) (o p : Result SoftType Refusal) →
    ReadsAs e c w place form a o → ReadsAs e c w place form a p → o ≡ p

abbrev pub OneAdjectiveLaw : Type 0
OneAdjectiveLaw =
    (e : Environment) (c : Context) (w : Wanted) (place : Place) (form : Meaning → Result Adjective Refusal) (a : Applied) (o p : Result Adjective Refusal) →
    ReadsAs e c w place form a o → ReadsAs e c w place form a p → o ≡ p

abbrev pub OneStatementLaw : Type 0
OneStatementLaw =
    (e : Environment) (c : Context) (w : Wanted) (place : Place) (form : Meaning → Result Statement Refusal) (a : Applied) (o p : Result Statement Refusal) →
    ReadsAs e c w place form a o → ReadsAs e c w place form a p → o ≡ p

-- so is what an identifier with arguments is read to
abbrev pub OneFunctorLaw : Type 0
OneFunctorLaw =
    (e : Environment) (c : Context) (least : ℕ) (place : Place) (name : List ℕ) (ts : List Term) (o p : Result Term Refusal) →
    AppliesFunctor e c least place name ts o → AppliesFunctor e c least place name ts p → o ≡ p

abbrev pub OnePredicateLaw : Type 0
OnePredicateLaw =
    (e : Environment) (c : Context) (least : ℕ) (place : Place) (name : List ℕ) (ts : List Term) (o p : Result Statement Refusal) →
    AppliesPredicate e c least place name ts o → AppliesPredicate e c least place name ts p → o ≡ p
