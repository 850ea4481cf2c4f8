-- A checker that accepts each article with a byte, as one theorem: each object is itself.
use Rattle.std.specs.Prelude.{◌≡◌, ◌<◌, ℕ, zero, suc, List, [], ◌∷◌, All, Contains, refl}
use Rattle.std.proofs.Common.{ap, arith, subst, sym, ◌∙◌}
use Rattle.std.proofs.lemmas.List.Elements.{All-nil, All-cons}
use Rattle.std.proofs.lemmas.Option.{same_Some, none-some}
use Rattle.mz_base.specs.Name.{number_of}
use Rattle.mz_base.specs.declared.name.Name.{Name}
use Rattle.mz_logic.specs.Term.{Bound, Const}
use Rattle.mz_logic.specs.Formula as formula
use Rattle.mz_logic.specs.Formula.{Formula}
use Rattle.mz_logic.specs.Formulas.{sequent}
use Rattle.mz_core.specs.Statement.{Statement, Eq, For}
use Rattle.mz_core.specs.Hidden.{object_type}
use Rattle.mz_items.specs.Items.{owes}
use Rattle.mz_core.specs.declared.item.Item.TheVariants.{Theorem}
use Rattle.mz_core.specs.declared.outcome.Export.{Export}
use Rattle.mz_core.specs.declared.outcome.Outcome.{Outcome}
use Rattle.mz_core.specs.declared.outcome.Outcome.TheVariants.{Accepted}
use Rattle.mz_axioms.specs.Library.{IsBefore, IsDerivable, OwesDerivable, HasName, Sound, MayBeAdded, added}
use Rattle.mz_axioms.specs.Checker.{OutcomeRelation, HasOneOutcome, AnswersName, KeepsSound}
use Rattle.mz_item_tests.specs.Rejecting.{one_fault, rejected_is_accepted}
use Rattle.mz_logic.proofs.SetLaws.{generalization, equal_self}
use Rattle.mz_axioms.proofs.AddedLemmas.{sound_added}

-- for x being object holds x = x
abbrev pub each_is_itself : Statement
each_is_itself = For object_type (Eq (Bound 0) (Bound 0))

abbrev pub export_named : Name → Export
export_named name = record { name = name; dependencies = []; items = Theorem each_is_itself ∷ []; notations = [] }

abbrev pub first_theorem : Name → List ℕ → Outcome
first_theorem name [] = one_fault
first_theorem name (b ∷ bs) = Accepted (export_named name)

abbrev pub IsFirstTheorem : OutcomeRelation
IsFirstTheorem name vocabularies exports bytes o = o ≡ first_theorem name bytes

pub first_theorem-once : HasOneOutcome IsFirstTheorem
first_theorem-once name vocabularies exports bytes o p h k = h ∙ sym k

accepted_same : (e f : Export) → Accepted e ≡ Accepted f → e ≡ f
accepted_same e f h = cc

-- an accepted export is the theorem's
accepted_is : (name : Name) (bytes : List ℕ) (e : Export) → Accepted e ≡ first_theorem name bytes → e ≡ export_named name
accepted_is name [] e h = absurd (rejected_is_accepted _ e h)
accepted_is name (b ∷ bs) e h = accepted_same e (export_named name) h

pub first_theorem-name : AnswersName IsFirstTheorem
first_theorem-name name vocabularies exports bytes e h = ap (λ x. x.name) (accepted_is name bytes e h)

in_none : (f : Formula) → Contains [] f → ⊥
in_none f h = let lt : h.0 < 0 = h.1 in omega arith

-- by generalization over a constant that is equal to itself
itself_derivable : (library : List Export) (e : Export) (k : ℕ) → IsDerivable library e k (sequent [] (formula.All (formula.Eq (Bound 0) (Bound 0))))
itself_derivable library e k =
    generalization (IsBefore library e k) (Contains []) (formula.Eq (Bound 0) (Bound 0)) 1 (λ f h. absurd (in_none f h)) refl
    (equal_self (IsBefore library e k) (Contains []) (Const 1) refl)

theorem_owes : (library : List Export) (e : Export) (k : ℕ) → All (IsDerivable library e k) (owes (Theorem each_is_itself))
unfolding owes number_of
theorem_owes library e k =
    All-cons (IsDerivable library e k) (sequent [] (formula.All (formula.Eq (Bound 0) (Bound 0)))) [] (itself_derivable library e k)
    (All-nil (IsDerivable library e k))

theorem_derivable : (library : List Export) (name : Name) → OwesDerivable library (export_named name)
theorem_derivable library name zero item at =
    subst (λ x. All (IsDerivable library (export_named name) 0) (owes x)) (same_Some (Theorem each_is_itself) item at) (theorem_owes library (export_named name) 0)
theorem_derivable library name (suc k) item at = absurd (none-some item at)

may_be_added : (library : List Export) (name : Name) → (HasName library name → ⊥) → MayBeAdded library (export_named name)
may_be_added library name lacks = record {
  fresh = lacks;
  primitive = λ h. refl;
  with_notations = refl;
  closed = refl;
  known = All-nil (HasName library);
  derivable = theorem_derivable (added (export_named name) library) name;
}

pub first_theorem-sound : KeepsSound IsFirstTheorem
first_theorem-sound name vocabularies exports bytes e library sound lacks from h =
    subst (λ x. Sound (added x library)) (sym (accepted_is name bytes e h))
    (sound_added library (export_named name) sound (may_be_added library name lacks))
