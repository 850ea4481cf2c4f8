-- What is promised of a checker's outcome.
use Rattle.std.specs.Prelude.{◌≡◌, ℕ, List}
use Rattle.mz_base.specs.declared.name.Name.{Name}
use Rattle.mz_base.specs.NamedText.{NamedText}
use Rattle.mz_core.specs.declared.outcome.Export.{Export}
use Rattle.mz_core.specs.declared.outcome.Outcome.{Outcome}
use Rattle.mz_core.specs.declared.outcome.Outcome.TheVariants.{Accepted}
use Rattle.mz_axioms.specs.Library.{HasName, Sound, AreExportsOf, added}

-- a relation between an article's name, its vocabularies, the exports of others, its bytes, and its outcome
abbrev pub OutcomeRelation : Type 1
OutcomeRelation = Name → List NamedText → List Export → List ℕ → Outcome → Type 0

-- an article has one outcome at most
abbrev pub HasOneOutcome : OutcomeRelation → Type 0
HasOneOutcome is_outcome =
    (name : Name) (vocabularies : List NamedText) (exports : List Export) (bytes : List ℕ) (o p : Outcome) → is_outcome name vocabularies exports bytes o → is_outcome name vocabularies exports bytes p → o ≡ p

-- an accepted article's export has the name that was handed in
abbrev pub AnswersName : OutcomeRelation → Type 0
AnswersName is_outcome =
    (name : Name) (vocabularies : List NamedText) (exports : List Export) (bytes : List ℕ) (e : Export) → is_outcome name vocabularies exports bytes (Accepted e) → e.name ≡ name

-- an article that is accepted from exports of a sound library, which has no export of its name, keeps the
-- library sound when it is added
abbrev pub KeepsSound : OutcomeRelation → Type 0
KeepsSound is_outcome =
    (name : Name) (vocabularies : List NamedText) (exports : List Export) (bytes : List ℕ) (e : Export) (library : List Export) → Sound library → (HasName library name → ⊥) → AreExportsOf library exports → is_outcome name vocabularies exports bytes (Accepted e) → Sound (added e library)
