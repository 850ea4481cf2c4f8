-- The answers of the calls that take parts of an article.
use Rattle.std.specs.Prelude.{◌≡◌, List, [], ◌++◌, Result, Ok, Err}
use Rattle.mz_obligations.specs.declared.obligation.Obligation.{Obligation}
use Rattle.mz_resolve.specs.declared.resolve_fault.ResolveFault.{ResolveFault}
use Rattle.mz_resolve.specs.declared.resolve_fault.ResolveFault.TheVariants as reading
use Rattle.mz_justified.specs.declared.proof_fault.ProofFault.{ProofFault}
use Rattle.mz_justified.specs.declared.proof_fault.ProofFault.TheVariants as reasoning
use Rattle.mz_justified.specs.declared.proof_fault.ProofRefusal.TheVariants.{Resolve}
use Rattle.mz_taken.specs.declared.item_fault.ItemFault.{ItemFault}
use Rattle.mz_taken.specs.declared.item_fault.ItemFault.TheVariants as fault
use Rattle.mz_taken.specs.declared.item_fault.ItemRefusal.{ItemRefusal}
use Rattle.mz_taken.specs.declared.item_fault.ItemRefusal.TheVariants.{Proof}
use Rattle.mz_taken.specs.Taken.{Taken, Made, Refused}

-- the fault of a reasoning, and that of a reading, as one of an item
abbrev pub of_reasoning : ProofFault → ItemFault
of_reasoning (reasoning.Refused r) = fault.Refused (Proof r)
of_reasoning reasoning.Memory = fault.Memory

abbrev pub of_reading : ResolveFault → ItemFault
of_reading (reading.Refused r) = fault.Refused (Proof (Resolve r))
of_reading reading.Memory = fault.Memory

-- a fact of what was taken or of the refusal; none where there was no memory
abbrev pub OnTaken : {X : Type 0} → Result X ItemFault → (Result X ItemRefusal → Type 0) → Type 0
OnTaken (Ok x) P = P (Ok x)
OnTaken (Err (fault.Refused r)) P = P (Err r)
OnTaken (Err fault.Memory) P = Unit {0}

-- the obligations that were made are put behind those that were there
pub record IsBrought (makes : List Obligation → Type 0) (old new : List Obligation) : Type 0 where
  pub made : List Obligation
  pub is_made : makes made
  pub are_last : new ≡ old ++ made

-- obligations were made, and what stands behind them; or it was refused
abbrev pub Brings : {X Y : Type 0} → (Taken Y → Type 0) → Y → List Obligation → List Obligation → Result X ItemRefusal → Type 0
Brings takes y old new (Ok x) = IsBrought (λ os. takes (Made os y)) old new
Brings takes y old new (Err r) = takes (Refused r)

-- what makes no obligation led to what stands behind it; or it was refused
abbrev pub Leads : {X Y : Type 0} → (Taken Y → Type 0) → Y → Result X ItemRefusal → Type 0
Leads takes y (Ok x) = takes (Made [] y)
Leads takes y (Err r) = takes (Refused r)
