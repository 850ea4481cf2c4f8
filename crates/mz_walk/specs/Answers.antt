-- The answers of the calls of a walk.
use Rattle.std.specs.Prelude.{◌≡◌, ◌++◌, List, Result, Ok, Err}
use Rattle.mz_obligations.specs.declared.obligation.Obligation.{Obligation}
use Rattle.mz_resolve.specs.declared.resolve_fault.ResolveFault.{ResolveFault}
use Rattle.mz_resolve.specs.declared.resolve_fault.ResolveFault.TheVariants as reading
use Rattle.mz_justified.specs.declared.proof_fault.ProofFault.{ProofFault}
use Rattle.mz_justified.specs.declared.proof_fault.ProofFault.TheVariants as fault
use Rattle.mz_justified.specs.declared.proof_fault.ProofRefusal.{ProofRefusal}
use Rattle.mz_justified.specs.declared.proof_fault.ProofRefusal.TheVariants.{Resolve}
use Rattle.mz_walk.specs.Walked.{Walked, Made, Refused}

-- the fault of a reading as one of a reasoning
abbrev pub resolved : ResolveFault → ProofFault
resolved (reading.Refused r) = fault.Refused (Resolve r)
resolved reading.Memory = fault.Memory

-- what was reached, or the refusal
abbrev pub reached : {X S : Type 0} → Result X ProofRefusal → S → Result S ProofRefusal
reached (Ok x) t = Ok t
reached (Err r) t = Err r

-- the obligations that were made are put behind those that were there
pub record IsBrought (makes : List Obligation → Type 0) (old new : List Obligation) : Type 0 where
  pub made : List Obligation
  pub is_made : makes made
  pub are_last : new ≡ old ++ made

-- obligations were made, and what stands behind them; or it was refused
abbrev pub Brings : {X Y : Type 0} → (Walked Y → Type 0) → Y → List Obligation → List Obligation → Result X ProofRefusal → Type 0
Brings walks y old new (Ok x) = IsBrought (λ os. walks (Made os y)) old new
Brings walks y old new (Err r) = walks (Refused r)
