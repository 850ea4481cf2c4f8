-- What a justification without a proof gives.
use Rattle.std.specs.Prelude.{◌≡◌, ◌++◌, ◌∷◌, Bool, true, false, List, [], Option, Some, None, Result, Ok, Err}
use Rattle.mz_base.specs.declared.place.Place.{Place}
use Rattle.mz_core.specs.Statement.{Statement}
use Rattle.mz_core.specs.declared.outcome.Left.{Left}
use Rattle.mz_core.specs.declared.scheme.Scheme.{Scheme}
use Rattle.mz_context.specs.declared.constants.Constant.{Constant}
use Rattle.mz_context.specs.declared.context.Context.{Context}
use Rattle.mz_environment.specs.declared.environment.Environment.{Environment}
use Rattle.mz_ground.specs.declared.clause.Clause.{Clause}
use Rattle.mz_types.specs.Known.{letters_clauses, typing}
use Rattle.mz_tree_proof.specs.declared.references.SimpleTree.{SimpleTree}
use Rattle.mz_tree_proof.specs.declared.references.SimpleTree.TheVariants.{Nothing, By, From}
use Rattle.mz_given.specs.Given.{cited_in, given_in}
use Rattle.mz_given.specs.declared.given.Given.{Given}
use Rattle.mz_given.specs.declared.given.Given.TheVariants.{ByStatements, ByScheme}
use Rattle.mz_from.specs.Verdict.{IsVerdict}
use Rattle.mz_steps.specs.Premises.{given}
use Rattle.mz_obligations.specs.Obligations.{IsObligation, obligation_spent}
use Rattle.mz_obligations.specs.declared.obligation.Duty.TheVariants.{From as DutyFrom}
use Rattle.mz_obligations.specs.declared.obligation.Extent.{Extent}
use Rattle.mz_obligations.specs.declared.obligation.Obligation.{Obligation}
use Rattle.mz_obligations.specs.declared.obligation.SchemeVerdict.{SchemeVerdict}
use Rattle.mz_names.specs.declared.refusal.Refusal.TheVariants.{TooLarge}
use Rattle.mz_justified.specs.Kept.{justification_keeps}
use Rattle.mz_justified.specs.declared.proof_fault.ProofRefusal.{ProofRefusal}
use Rattle.mz_justified.specs.declared.proof_fault.ProofRefusal.TheVariants.{StepNoFit, UnknownLabel, Resolve, TooManyObligations}

-- its place: the word `by` or `from`, or the place of the token behind the statement where neither is written
abbrev pub place_of : Place → SimpleTree → Place
place_of behind Nothing = behind
place_of behind (By by rs) = by
place_of behind (From from s ps) = from

-- what a justification gives, and what the article has left behind its obligation; or the refusal. `first` is the place of the
-- step's first token, `linked` says that the step begins with `then` or `hence`, and `behind` is the place of the token behind
-- the statement. In this order: a linked step follows a statement; the article has an obligation left; each reference cites
-- something, that of a scheme first. After a refusal anything may be left.
pub data Grounds (e : Environment) (c : Context) (first : Place) (linked : Bool) (behind : Place) (t : SimpleTree) (left : Left) : Result Given ProofRefusal → Left → Type 0 where
  follows_nothing : (after : Left) → given linked c [] ≡ None → Grounds e c first linked behind t left (Err (StepNoFit first)) after
  too_many : (ss : List Statement) (after : Left) → given linked c [] ≡ Some ss → obligation_spent left ≡ None →
      Grounds e c first linked behind t left (Err (TooManyObligations (place_of behind t))) after
  cites_nothing : (ss : List Statement) (between after : Left) (p : Place) → given linked c [] ≡ Some ss → obligation_spent left ≡ Some between → cited_in e c t ≡ Err p →
      Grounds e c first linked behind t left (Err (UnknownLabel p)) after
  grounded : (cited g : Given) (after : Left) → obligation_spent left ≡ Some after → cited_in e c t ≡ Ok cited → given_in linked c cited ≡ Some g →
      Grounds e c first linked behind t left (Ok g) after

-- the obligation of a statement by a scheme and what is cited for its premises, at the place: what is found there
pub record IsFollowed (cs : List Clause) (ks : List (Option Constant)) (scheme : Scheme) (cited : List Statement) (s : Statement) (place : Place) (extent : Extent) (letters : List Clause) (o : Obligation) : Type 0 where
  pub place_is : o.place ≡ place
  pub extent_is : o.extent ≡ extent
  pub letters_are : o.letters ≡ letters
  pub verdict : SchemeVerdict
  pub found : IsVerdict cs ks scheme cited s verdict
  pub duty_is : o.duty ≡ DutyFrom verdict

-- the obligation of a statement by what is given, at the place, where so much can be used
abbrev pub Owes : Environment → Extent → Context → Given → Statement → Place → Obligation → Type 0
Owes e at c (ByStatements ss) s place o = IsObligation (typing e c) e.expansions c.constants ss s place at (letters_clauses c.letters) o
Owes e at c (ByScheme x cited) s place o = IsFollowed (typing e c) c.constants x cited s place at (letters_clauses c.letters) o

-- the obligation of the statement by its justification, and what is left behind it; or the refusal. That an instance of a scheme is too
-- large stands at the step's first token, so before what is refused at the justification
pub data Justified (e : Environment) (at : Extent) (c : Context) (first : Place) (linked : Bool) (behind : Place) (t : SimpleTree) (s : Statement) (left : Left) : Result Obligation ProofRefusal → Left → Type 0 where
  too_large : (after : Left) → justification_keeps e c linked t s ≡ false → Justified e at c first linked behind t s left (Err (Resolve (TooLarge first))) after
  not_grounded : (r : ProofRefusal) (after : Left) → justification_keeps e c linked t s ≡ true → Grounds e c first linked behind t left (Err r) after →
      Justified e at c first linked behind t s left (Err r) after
  owed : (g : Given) (o : Obligation) (after : Left) → justification_keeps e c linked t s ≡ true → Grounds e c first linked behind t left (Ok g) after →
      Owes e at c g s (place_of behind t) o → Justified e at c first linked behind t s left (Ok o) after

-- it is put behind the obligations before it
pub record IsPut (owes : Obligation → Type 0) (old new : List Obligation) : Type 0 where
  pub obligation : Obligation
  pub is_owed : owes obligation
  pub is_last : new ≡ old ++ obligation ∷ []

-- and then the justification has given it; or it was refused
abbrev pub Put : {X : Type 0} → (Result Obligation ProofRefusal → Type 0) → List Obligation → List Obligation → Result X ProofRefusal → Type 0
Put gives old new (Ok x) = IsPut (λ o. gives (Ok o)) old new
Put gives old new (Err r) = gives (Err r)
