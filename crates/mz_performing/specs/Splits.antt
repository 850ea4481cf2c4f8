-- What stands behind the cases of a split.
use Rattle.std.specs.Prelude.{◌≡◌, ◌++◌, ◌∷◌, List, Option, Some, None, Result, Ok, Err}
use Rattle.mz_base.specs.declared.place.Place.{Place}
use Rattle.mz_core.specs.Statement.{Statement, Truth}
use Rattle.mz_core.specs.declared.outcome.Left.{Left}
use Rattle.mz_context.specs.declared.context.Context.{Context}
use Rattle.mz_environment.specs.declared.environment.Environment.{Environment}
use Rattle.mz_names.specs.declared.refusal.Refusal.{Refusal}
use Rattle.mz_sizes.specs.Sizes.{statement_keeps}
use Rattle.mz_applied.specs.Within.{within}
use Rattle.mz_tree_proof.specs.declared.skeleton.SplitTree.{SplitTree}
use Rattle.mz_obligations.specs.declared.obligation.Extent.{Extent}
use Rattle.mz_obligations.specs.declared.obligation.Obligation.{Obligation}
use Rattle.mz_given.specs.declared.given.Given.{Given}
use Rattle.mz_justified.specs.Justified.{Owes, place_of}
use Rattle.mz_justified.specs.declared.proof_fault.ProofRefusal.{ProofRefusal}
use Rattle.mz_justified.specs.declared.proof_fault.ProofRefusal.TheVariants.{Resolve}
use Rattle.mz_walk.specs.Walked.{Walked, Made, Refused}
use Rattle.mz_walk.specs.Walk.{Cases, disjunction_of}

-- nothing is left of the thesis, and there is no statement just before
abbrev pub with_truth : Context → Context
with_truth c = record c { thesis = Some Truth; previous = None }

-- an obligation is put behind the old ones, and then the inner ones
pub record IsPutFirst (owes : Obligation → Type 0) (inner old new : List Obligation) : Type 0 where
  pub obligation : Obligation
  pub is_owed : owes obligation
  pub are_last : new ≡ old ++ obligation ∷ inner

-- the obligation that one of the cases holds, in front of those of the cases
pub record IsSplit (e : Environment) (at : Extent) (c d : Context) (first : Place) (t : SplitTree) (given : Given) (suppositions : List Statement) (inner old new : List Obligation) : Type 0 where
  pub statement : Statement
  pub obligation : Obligation
  pub joined : within statement_keeps first (disjunction_of suppositions) ≡ Ok statement
  pub is_owed : Owes e at c given statement (place_of t.semicolon t.simple) obligation
  pub are_last : new ≡ old ++ obligation ∷ inner
  pub context : d ≡ with_truth c

-- or it is beyond the limits
abbrev pub IsUnsplit : Place → List Statement → ProofRefusal → Type 0
IsUnsplit first suppositions r = (q : Refusal) × (within statement_keeps first (disjunction_of suppositions) ≡ Err q) × (r ≡ Resolve q)

abbrev pub SplitEnds : {X : Type 0} → Environment → Extent → Context → Context → Place → SplitTree → Given → List Statement → List Obligation → List Obligation → List Obligation → Result X ProofRefusal → Type 0
SplitEnds e at c d first t given suppositions inner old new (Ok x) = IsSplit e at c d first t given suppositions inner old new
SplitEnds e at c d first t given suppositions inner old new (Err r) = IsUnsplit first suppositions r

-- cases were taken: their obligations are put behind the others, and so is what they suppose
pub record AreTaken (walks : Walked Cases → Type 0) (l : Left) (sold snew : List Statement) (old new : List Obligation) : Type 0 where
  pub made : List Obligation
  pub suppositions : List Statement
  pub is_made : walks (Made made (record { suppositions = suppositions; left = l }))
  pub are_last : new ≡ old ++ made
  pub are_behind : snew ≡ sold ++ suppositions

abbrev pub TakesCases : {X : Type 0} → (Walked Cases → Type 0) → Left → List Statement → List Statement → List Obligation → List Obligation → Result X ProofRefusal → Type 0
TakesCases walks l sold snew old new (Ok x) = AreTaken walks l sold snew old new
TakesCases walks l sold snew old new (Err r) = walks (Refused r)
