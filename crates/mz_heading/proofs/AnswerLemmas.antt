-- What answers tell.
use Rattle.std.proofs.Common.{◌≡◌, List, [], append-nil, sym, subst}
use Rattle.std.specs.Prelude.{Result, Ok, Err}
use Rattle.mz_names.specs.declared.refusal.Refusal.{Refusal}
use Rattle.mz_justified.specs.declared.proof_fault.ProofRefusal.TheVariants.{Resolve}
use Rattle.mz_obligations.specs.declared.obligation.Obligation.{Obligation}
use Rattle.mz_resolve.specs.Answers.{OnRead}
use Rattle.mz_resolve.specs.declared.resolve_fault.ResolveFault.{ResolveFault}
use Rattle.mz_resolve.specs.declared.resolve_fault.ResolveFault.TheVariants as reading
use Rattle.mz_taken.specs.Answers.{OnTaken, Brings, Leads, of_reading}
use Rattle.mz_taken.specs.Taken.{Taken, Made, Refused}
use Rattle.mz_taken.specs.declared.item_fault.ItemFault.{ItemFault}
use Rattle.mz_taken.specs.declared.item_fault.ItemFault.TheVariants as fault
use Rattle.mz_taken.specs.declared.item_fault.ItemRefusal.{ItemRefusal}
use Rattle.mz_taken.specs.declared.item_fault.ItemRefusal.TheVariants.{Proof}

pub read_by : {X : Type 0} (P : Result X Refusal → Type 0) (p : Result X ResolveFault) (x : X) → OnRead p P → p ≡ Ok x → P (Ok x)
read_by P p x h e = subst (λ q. OnRead q P) e h

refused_so : {X Y : Type 0} (P : Result X Refusal → Type 0) (Q : Result Y ItemRefusal → Type 0) (f : ResolveFault) → OnRead {X = X} (Err f) P → ((r : Refusal) → P (Err r) → Q (Err (Proof (Resolve r)))) → OnTaken {X = Y} (Err (of_reading f)) Q
refused_so P Q (reading.Refused r) h k = k r h
refused_so P Q reading.Memory h k = tt

-- the refusal of a reading, as one of an item
pub refused_by : {X Y : Type 0} (P : Result X Refusal → Type 0) (Q : Result Y ItemRefusal → Type 0) (p : Result X ResolveFault) (f : ResolveFault) → OnRead p P → p ≡ Err f → ((r : Refusal) → P (Err r) → Q (Err (Proof (Resolve r)))) → OnTaken {X = Y} (Err (of_reading f)) Q
refused_by P Q p f h e k = refused_so P Q f (subst (λ q. OnRead q P) e h) k

-- a refusal that code makes
pub refused_as : (X : Type 0) {Y : Type 0} (P : Taken Y → Type 0) (y : Y) (os os2 : List Obligation) (k : ItemFault) (r : ItemRefusal) → k ≡ fault.Refused r → P (Refused r) → OnTaken {X = X} (Err k) (Brings P y os os2)
refused_as X P y os os2 k r e h = subst (λ z. OnTaken {X = X} (Err z) (Brings P y os os2)) (sym e) h

-- more is known of each outcome
pub led_more : {X Y : Type 0} (P Q : Taken Y → Type 0) (y : Y) (z : Result X ItemFault) → ((o : Taken Y) → P o → Q o) → OnTaken z (Leads P y) → OnTaken z (Leads Q y)
led_more P Q y (Ok x) k h = k (Made [] y) h
led_more P Q y (Err (fault.Refused r)) k h = k (Refused r) h
led_more P Q y (Err fault.Memory) k h = tt

pub brought_more : {X Y : Type 0} (P Q : Taken Y → Type 0) (y : Y) (old new : List Obligation) (z : Result X ItemFault) → ((o : Taken Y) → P o → Q o) → OnTaken z (Brings P y old new) → OnTaken z (Brings Q y old new)
brought_more P Q y old new (Ok x) k h = record { made = h.made; is_made = k (Made h.made y) h.is_made; are_last = h.are_last }
brought_more P Q y old new (Err (fault.Refused r)) k h = k (Refused r) h
brought_more P Q y old new (Err fault.Memory) k h = tt

-- what makes no obligation brings none
pub led_brings : {X Y : Type 0} (P Q : Taken Y → Type 0) (y : Y) (os : List Obligation) (z : Result X ItemFault) → ((o : Taken Y) → P o → Q o) → OnTaken z (Leads P y) → OnTaken z (Brings Q y os os)
led_brings P Q y os (Ok x) k h = record { made = []; is_made = k (Made [] y) h; are_last = sym (append-nil os) }
led_brings P Q y os (Err (fault.Refused r)) k h = k (Refused r) h
led_brings P Q y os (Err fault.Memory) k h = tt
