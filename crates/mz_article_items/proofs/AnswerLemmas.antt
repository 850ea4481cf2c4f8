-- Answers of calls: what one tells of a fault, the call around it tells.
use Rattle.std.proofs.Common.{◌≡◌, List, [], ◌∷◌, ◌++◌, refl, sym, ap, ◌∙◌, subst}
use Rattle.std.specs.Prelude.{Result, Ok, Err}
use Rattle.std.proofs.lemmas.List.{append-nil, append_assoc}
use Rattle.mz_names.specs.declared.refusal.Refusal.{Refusal}
use Rattle.mz_obligations.specs.declared.obligation.Obligation.{Obligation}
use Rattle.mz_resolve.specs.Answers.{OnRead}
use Rattle.mz_resolve.specs.declared.resolve_fault.ResolveFault.{ResolveFault}
use Rattle.mz_resolve.specs.declared.resolve_fault.ResolveFault.TheVariants as reading
use Rattle.mz_justified.specs.Answers.{OnMade}
use Rattle.mz_justified.specs.declared.proof_fault.ProofFault.{ProofFault}
use Rattle.mz_justified.specs.declared.proof_fault.ProofFault.TheVariants as fault
use Rattle.mz_justified.specs.declared.proof_fault.ProofRefusal.{ProofRefusal}
use Rattle.mz_justified.specs.declared.proof_fault.ProofRefusal.TheVariants.{Resolve}
use Rattle.mz_walk.specs.Answers.{resolved}

-- a fault that is handed on
handed_on : {X Y : Type 0} (P : Result X ProofRefusal → Type 0) (Q : Result Y ProofRefusal → Type 0) (f : ProofFault) → ((r : ProofRefusal) → P (Err r) → Q (Err r)) → OnMade {X = X} (Err f) P → OnMade {X = Y} (Err f) Q
handed_on P Q (fault.Refused r) k h = k r h
handed_on P Q fault.Memory k h = tt

pub on_err : {X Y : Type 0} (P : Result X ProofRefusal → Type 0) (Q : Result Y ProofRefusal → Type 0) (x : Result X ProofFault) (f : ProofFault) → x ≡ Err f → OnMade x P → ((r : ProofRefusal) → P (Err r) → Q (Err r)) → OnMade {X = Y} (Err f) Q
on_err P Q x f e h k = handed_on P Q f k (subst (λ y. OnMade y P) e h)

pub on_ok : {X : Type 0} (P : Result X ProofRefusal → Type 0) (x : Result X ProofFault) (y : X) → x ≡ Ok y → OnMade x P → P (Ok y)
on_ok P x y e h = subst (λ z. OnMade z P) e h

-- a fault of a reading
read_on : {X Y : Type 0} (P : Result X Refusal → Type 0) (Q : Result Y ProofRefusal → Type 0) (f : ResolveFault) → ((r : Refusal) → P (Err r) → Q (Err (Resolve r))) → OnRead {X = X} (Err f) P → OnMade {X = Y} (Err (resolved f)) Q
read_on P Q (reading.Refused r) k h = k r h
read_on P Q reading.Memory k h = tt

pub on_unread : {X Y : Type 0} (P : Result X Refusal → Type 0) (Q : Result Y ProofRefusal → Type 0) (x : Result X ResolveFault) (f : ResolveFault) (g : ProofFault) → x ≡ Err f → g ≡ resolved f → OnRead x P → ((r : Refusal) → P (Err r) → Q (Err (Resolve r))) → OnMade {X = Y} (Err g) Q
on_unread P Q x f g e eg h k = subst (λ y. OnMade (Err y) Q) (sym eg) (read_on P Q f k (subst (λ y. OnRead y P) e h))

pub on_read : {X : Type 0} (P : Result X Refusal → Type 0) (x : Result X ResolveFault) (y : X) → x ≡ Ok y → OnRead x P → P (Ok y)
on_read P x y e h = subst (λ z. OnRead z P) e h

-- the same answer, of which more is told
pub on_made : {X : Type 0} (P Q : Result X ProofRefusal → Type 0) (x : Result X ProofFault) → OnMade x P → ((y : X) → P (Ok y) → Q (Ok y)) → ((r : ProofRefusal) → P (Err r) → Q (Err r)) → OnMade x Q
on_made P Q (Ok y) h k m = k y h
on_made P Q (Err (fault.Refused r)) h k m = m r h
on_made P Q (Err fault.Memory) h k m = tt
