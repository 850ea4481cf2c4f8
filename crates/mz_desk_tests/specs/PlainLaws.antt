-- The laws of the checker for tests.
use Rattle.std.specs.Prelude.{◌≡◌, ◌==◌, Bool, true, false, if◌then◌else◌, List, [], ◌∷◌, All, Contains, refl}
use Rattle.std.proofs.Common.{ap, sym, ◌∙◌, subst}
use Rattle.std.proofs.lemmas.List.Elements.{All-nil, All-cons, All-contains}
use Rattle.std.proofs.lemmas.Bool.{false≢true}
use Rattle.std.proofs.lemmas.Option.{none-some}
use Rattle.mz_base.specs.declared.name.Name.{Name}
use Rattle.mz_core.specs.declared.fault.Fault.{Fault}
use Rattle.mz_core.specs.declared.outcome.Export.{Export}
use Rattle.mz_core.specs.declared.outcome.Outcome.{Outcome}
use Rattle.mz_core.specs.declared.outcome.Outcome.TheVariants.{Accepted, Rejected}
use Rattle.mz_axioms.specs.Names.{hidden_name}
use Rattle.mz_axioms.specs.BuiltIn.{hidden, tarski_0, tarski_a, built_in_exports}
use Rattle.mz_axioms.specs.Library.{HasName, Sound, MayBeAdded, added}
use Rattle.mz_axioms.specs.Checker.{HasOneOutcome, AnswersName, KeepsSound}
use Rattle.mz_axioms.proofs.AddedLemmas.{here, sound_added}
use Rattle.mz_desk_tests.specs.Plain.{one_fault, dependencies_of, export_with, IsPlain}

pub plain-once : HasOneOutcome IsPlain
plain-once name vocabularies exports bytes o p h k = h ∙ sym k

abbrev is_accepted : Outcome → Bool
is_accepted (Accepted e) = true
is_accepted (Rejected fs) = false

-- the export of an accepted outcome, another one of a rejected outcome
abbrev export_or : Export → Outcome → Export
export_or d (Accepted e) = e
export_or d (Rejected fs) = d

rejected_is_accepted : (fs : List Fault) (e : Export) → Accepted e ≡ Rejected fs → ⊥
rejected_is_accepted fs e h = false≢true (ap is_accepted (sym h))

accepted_same : (e f : Export) → Accepted e ≡ Accepted f → e ≡ f
accepted_same e f h = ap (export_or e) h

pub plain-name : AnswersName IsPlain
plain-name name vocabularies exports [] e h = absurd (rejected_is_accepted (one_fault ∷ []) e h)
plain-name name vocabularies exports (b ∷ bs) e h = ap (λ x. x.name) (accepted_same e (export_with name (dependencies_of b)) h)

may_be_added : (library : List Export) (name : Name) (dependencies : List Name) → (HasName library name → ⊥) → All (HasName library) dependencies → MayBeAdded library (export_with name dependencies)
may_be_added library name dependencies lacks known = record {
  fresh = lacks;
  primitive = λ h. refl;
  with_notations = refl;
  closed = refl;
  known = known;
  derivable = λ k item at. absurd (none-some item at);
}

known_if : (library : List Export) → Sound library → (b : Bool) → All (HasName library) (if b then hidden_name ∷ [] else [])
known_if library sound true =
    All-cons (HasName library) hidden_name []
    (hidden, All-contains (Contains library) built_in_exports hidden sound.built_in (here hidden (tarski_0 ∷ tarski_a ∷ [])), refl)
    (All-nil (HasName library))
known_if library sound false = All-nil (HasName library)

pub plain-sound : KeepsSound IsPlain
plain-sound name vocabularies exports [] e library sound lacks from h = absurd (rejected_is_accepted (one_fault ∷ []) e h)
plain-sound name vocabularies exports (b ∷ bs) e library sound lacks from h =
    let x = export_with name (dependencies_of b) in
    subst (λ y. Sound (added y library)) (sym (accepted_same e x h)) (sound_added library x sound (may_be_added library name (dependencies_of b) lacks (known_if library sound (b == 43))))
