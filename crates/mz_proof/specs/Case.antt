-- One case of a split among others.
use Rattle.std.specs.Prelude.{◌≡◌, ◌++◌, ◌∷◌, [], List, Result, Ok, Err}
use Rattle.mz_core.specs.Statement.{Statement}
use Rattle.mz_core.specs.declared.outcome.Left.{Left}
use Rattle.mz_context.specs.declared.context.Context.{Context}
use Rattle.mz_environment.specs.declared.environment.Environment.{Environment}
use Rattle.mz_tree_proof.specs.Reasoning.{SupposeData, SupposeList, more_supposes}
use Rattle.mz_obligations.specs.declared.obligation.Extent.{Extent}
use Rattle.mz_obligations.specs.declared.obligation.Obligation.{Obligation}
use Rattle.mz_justified.specs.declared.proof_fault.ProofRefusal.{ProofRefusal}
use Rattle.mz_walk.specs.Walked.{Walked, Refused, behind}
use Rattle.mz_walk.specs.Walk.{Cases, with_case, Supposes}

-- a case was taken: whatever comes of the cases behind it, with it there come its obligations and what it supposes in front
pub record IsTaken (e : Environment) (at : Extent) (c : Context) (t : SupposeData) (l m : Left) (sold snew : List Statement) (old new : List Obligation) : Type 0 where
  pub made : List Obligation
  pub supposition : Statement
  pub are_last : new ≡ old ++ made
  pub is_behind : snew ≡ sold ++ supposition ∷ []
  pub goes_on : (us : SupposeList) (o : Walked Cases) → Supposes e at c us m o → Supposes e at c (more_supposes t us) l (behind made (with_case supposition o))

-- or it is refused, whatever the cases behind it are
abbrev pub TakesCase : {X : Type 0} → Environment → Extent → Context → SupposeData → Left → Left → List Statement → List Statement → List Obligation → List Obligation → Result X ProofRefusal → Type 0
TakesCase e at c t l m sold snew old new (Ok x) = IsTaken e at c t l m sold snew old new
TakesCase e at c t l m sold snew old new (Err r) = (us : SupposeList) → Supposes e at c (more_supposes t us) l (Refused r)
