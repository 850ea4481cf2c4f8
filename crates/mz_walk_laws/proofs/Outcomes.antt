-- What holds where something was answered or made.
use Rattle.std.proofs.Common.{◌≡◌, Bool, true, false, if◌then◌else◌, List, [], ◌∷◌, ◌++◌, refl, subst, Result, Ok, Err}
use Rattle.mz_base.specs.declared.place.Place.{Place}
use Rattle.mz_core.specs.declared.outcome.Left.{Left}
use Rattle.mz_names.specs.declared.refusal.Refusal.TheVariants.{TooLarge}
use Rattle.mz_applied.specs.Within.{within}
use Rattle.mz_obligations.specs.declared.obligation.Obligation.{Obligation}
use Rattle.mz_justified.specs.declared.proof_fault.ProofRefusal.{ProofRefusal}
use Rattle.mz_walk.specs.Walked.{State, with_left, Walked, Made, Refused, without_obligations, behind, led_to, one_made}

-- a fact of what was answered
abbrev pub WhereOk : {X E : Type 0} → Result X E → (X → Type 0) → Type 0
WhereOk (Ok x) P = P x
WhereOk (Err r) P = Unit {0}

-- a fact of what was made
abbrev pub WhereMade : {X : Type 0} → Walked X → (List Obligation → X → Type 0) → Type 0
WhereMade (Made os x) P = P os x
WhereMade (Refused r) P = Unit {0}

pub where_ok : {X E : Type 0} (P : X → Type 0) (o : Result X E) → ((x : X) → o ≡ Ok x → P x) → WhereOk o P
where_ok P (Ok x) each = each x refl
where_ok P (Err r) each = tt

pub ok_there : {X E : Type 0} (P : X → Type 0) (o : Result X E) (x : X) → o ≡ Ok x → WhereOk o P → P x
ok_there P o x e h = subst (λ r. WhereOk r P) e h

pub ok_mapped : {X E : Type 0} (P Q : X → Type 0) (o : Result X E) → ((x : X) → P x → Q x) → WhereOk o P → WhereOk o Q
ok_mapped P Q (Ok x) f h = f x h
ok_mapped P Q (Err r) f h = tt

pub ok_both : {X E : Type 0} (P Q R : X → Type 0) (o : Result X E) → ((x : X) → P x → Q x → R x) → WhereOk o P → WhereOk o Q → WhereOk o R
ok_both P Q R (Ok x) f h k = f x h k
ok_both P Q R (Err r) f h k = tt

pub made_there : {X : Type 0} (P : List Obligation → X → Type 0) (w : Walked X) (os : List Obligation) (x : X) → w ≡ Made os x → WhereMade w P → P os x
made_there P w os x e h = subst (λ v. WhereMade v P) e h

pub made_mapped : {X : Type 0} (P Q : List Obligation → X → Type 0) (w : Walked X) → ((os : List Obligation) (x : X) → P os x → Q os x) → WhereMade w P → WhereMade w Q
made_mapped P Q (Made os x) f h = f os x h
made_mapped P Q (Refused r) f h = tt

-- under a premise
pub ok_under : {X E A : Type 0} (P : X → Type 0) (o : Result X E) → (A → WhereOk o P) → WhereOk o (λ x. A → P x)
ok_under P (Ok x) f = f
ok_under P (Err r) f = tt

pub made_under : {X A : Type 0} (P : List Obligation → X → Type 0) (w : Walked X) → (A → WhereMade w P) → WhereMade w (λ os x. A → P os x)
made_under P (Made os x) f = f
made_under P (Refused r) f = tt

-- of a walk put together from parts
pub made_without : {X : Type 0} (P : List Obligation → X → Type 0) (o : Result X ProofRefusal) → WhereOk o (λ x. P [] x) → WhereMade (without_obligations o) P
made_without P (Ok x) h = h
made_without P (Err r) h = tt

pub made_behind : {X : Type 0} (P : List Obligation → X → Type 0) (os : List Obligation) (w : Walked X) → WhereMade w (λ ps x. P (os ++ ps) x) → WhereMade (behind os w) P
made_behind P os (Made ps x) h = h
made_behind P os (Refused r) h = tt

pub made_led : (P : List Obligation → State → Type 0) (s : State) (w : Walked Left) → WhereMade w (λ os l. P os (with_left s l)) → WhereMade (led_to s w) P
made_led P s (Made os l) h = h
made_led P s (Refused r) h = tt

pub made_one : (P : List Obligation → Left → Type 0) (o : Result Obligation ProofRefusal) (l : Left) → WhereOk o (λ x. P (x ∷ []) l) → WhereMade (one_made o l) P
made_one P (Ok x) l h = h
made_one P (Err r) l h = tt

-- what is within the limits
same_ok : {X E : Type 0} (x y : X) (o : Result X E) → o ≡ Ok x → o ≡ Ok y → x ≡ y
same_ok x y o e f = cc

err_ok : {X E : Type 0} (r : E) (y : X) → Err r ≡ Ok y → ⊥
err_ok r y e = cc

chosen : {X E : Type 0} (b : Bool) (x y : X) (r : E) → (if b then Ok x else Err r) ≡ Ok y → x ≡ y
chosen true x y r e = same_ok x y (Ok x) refl e
chosen false x y r e = absurd (err_ok r y e)

pub within_is : {X : Type 0} (keeps : X → Bool) (first : Place) (x y : X) → within keeps first x ≡ Ok y → x ≡ y
within_is keeps first x y e = chosen (keeps x) x y (TooLarge first) e
