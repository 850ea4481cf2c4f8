-- What answers tell.
use Rattle.std.proofs.Common.{◌≡◌, subst}
use Rattle.std.specs.Prelude.{Result, Ok, Err}
use Rattle.mz_names.specs.declared.refusal.Refusal.{Refusal}
use Rattle.mz_resolve.specs.Answers.{OnRead}
use Rattle.mz_resolve.specs.declared.resolve_fault.ResolveFault.{ResolveFault}
use Rattle.mz_resolve.specs.declared.resolve_fault.ResolveFault.TheVariants.{Refused, Memory}

pub read_by : {X : Type 0} (P : Result X Refusal → Type 0) (p : Result X ResolveFault) (x : X) → OnRead p P → p ≡ Ok x → P (Ok x)
read_by P p x h e = subst (λ q. OnRead q P) e h

pub refused_by : {X Y : Type 0} (P : Result X Refusal → Type 0) (Q : Result Y Refusal → Type 0) (p : Result X ResolveFault) (f : ResolveFault) → OnRead p P → p ≡ Err f → ((r : Refusal) → P (Err r) → Q (Err r)) → OnRead {X = Y} (Err f) Q
refused_by P Q p (Refused r) h e k = k r (subst (λ q. OnRead q P) e h)
refused_by P Q p Memory h e k = tt

pub read_more : {X : Type 0} (P Q : Result X Refusal → Type 0) (p : Result X ResolveFault) → OnRead p P → ((o : Result X Refusal) → P o → Q o) → OnRead p Q
read_more P Q (Ok x) h k = k (Ok x) h
read_more P Q (Err (Refused r)) h k = k (Err r) h
read_more P Q (Err Memory) h k = tt

-- answers that are the same, and answers that are apart
abbrev pub good : {X : Type 0} → X → Result X Refusal
good x = Ok x

abbrev pub bad : {X : Type 0} → Refusal → Result X Refusal
bad r = Err r

pub ok-inj : {X : Type 0} (x y : X) → good x ≡ good y → x ≡ y
ok-inj x y h = cc

pub err-inj : {X : Type 0} (r s : Refusal) → bad {X = X} r ≡ bad {X = X} s → r ≡ s
err-inj r s h = cc

pub err-ok : {X : Type 0} (r : Refusal) (x : X) → bad r ≡ good x → ⊥
err-ok r x h = cc

pub ok-err : {X : Type 0} (x : X) (r : Refusal) → good x ≡ bad r → ⊥
ok-err x r h = cc
