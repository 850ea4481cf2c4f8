-- The answers of the calls: what was made, the refusal, or want of memory.
use Rattle.std.specs.Prelude.{Result, Ok, Err}
use Rattle.mz_justified.specs.declared.proof_fault.ProofRefusal.{ProofRefusal}
use Rattle.mz_justified.specs.declared.proof_fault.ProofFault.{ProofFault}
use Rattle.mz_justified.specs.declared.proof_fault.ProofFault.TheVariants.{Refused, Memory}

-- a fact of what was made or of the refusal; none where there was no memory
abbrev pub OnMade : {X : Type 0} → Result X ProofFault → (Result X ProofRefusal → Type 0) → Type 0
OnMade (Ok x) P = P (Ok x)
OnMade (Err (Refused r)) P = P (Err r)
OnMade (Err Memory) P = Unit {0}
