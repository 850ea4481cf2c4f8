-- The answers of the calls: what was read and what is left, the refusal, or want of memory.
use Rattle.std.specs.Prelude.{Result, Ok, Err}
use Rattle.mz_names.specs.declared.refusal.Refusal.{Refusal}
use Rattle.mz_resolve.specs.declared.resolve_fault.ResolveFault.{ResolveFault}
use Rattle.mz_resolve.specs.declared.resolve_fault.ResolveFault.TheVariants.{Refused, Memory}

-- a fact of what was read or of the refusal; none where there was no memory
abbrev pub OnRead : {X : Type 0} → Result X ResolveFault → (Result X Refusal → Type 0) → Type 0
OnRead (Ok x) P = P (Ok x)
OnRead (Err (Refused r)) P = P (Err r)
OnRead (Err Memory) P = Unit {0}
