-- A variable that gets a class.
use Rattle.std.proofs.Common.{◌≡◌, ◌<◌, inl, inr, ℕ, zero, suc, List, [], ◌∷◌, map, set, length, ◌≤◌, refl, arith, ap, sym, ◌∙◌, eq-eqb}
use Rattle.std.specs.Prelude.{slice_get, slice_index_or, Option, Some, None}
use Rattle.std.proofs.lemmas.Bool.Decides.{eqb_tells}
use Rattle.mz_match.specs.Slots.{Assignment}
use Rattle.mz_match.specs.Matches.{bind, bind_slot}

pub bind-past : (i v : ℕ) (e : Assignment) → length e ≤ i → bind i v e ≡ []
bind-past i v [] h = refl
bind-past zero v (x ∷ e) h = absurd (omega arith)
bind-past (suc i) v (x ∷ e) h = ap (map (λ d. x ∷ d)) (bind-past i v e (omega arith))

pub bind-open : (i v : ℕ) (e : Assignment) → slice_get e i ≡ Some None → bind i v e ≡ set e i (Some v) ∷ []
bind-open i v [] h = cc
bind-open zero v (None ∷ e) h = refl
bind-open zero v (Some w ∷ e) h = cc
bind-open (suc i) v (x ∷ e) h = ap (map (λ d. x ∷ d)) (bind-open i v e h)

same_slot : (w v : ℕ) (e : Assignment) → w ≡ v → bind_slot (Some w) v e ≡ (Some w ∷ e) ∷ []
same_slot w v e q = rw (eq-eqb w v q) refl

other_slot : (w v : ℕ) (e : Assignment) → (w ≡ v → ⊥) → bind_slot (Some w) v e ≡ []
other_slot w v e q = elim (eqb_tells w v) [ inl t ↦ absurd (q t.1) | inr t ↦ rw t.0 refl ]

pub bind-same : (i v w : ℕ) (e : Assignment) → slice_get e i ≡ Some (Some w) → w ≡ v → bind i v e ≡ e ∷ []
bind-same i v w [] h q = cc
bind-same zero v w (None ∷ e) h q = cc
bind-same zero v w (Some u ∷ e) h q = let p : u ≡ v = cc in same_slot u v e p
bind-same (suc i) v w (x ∷ e) h q = ap (map (λ d. x ∷ d)) (bind-same i v w e h q)

pub bind-other : (i v w : ℕ) (e : Assignment) → slice_get e i ≡ Some (Some w) → (w ≡ v → ⊥) → bind i v e ≡ []
bind-other i v w [] h q = cc
bind-other zero v w (None ∷ e) h q = cc
bind-other zero v w (Some u ∷ e) h q = let p : u ≡ w = cc in other_slot u v e (λ r. q (sym p ∙ r))
bind-other (suc i) v w (x ∷ e) h q = ap (map (λ d. x ∷ d)) (bind-other i v w e h q)

-- by the slot at the variable
slot_get : (i : ℕ) (e : Assignment) (x : Option ℕ) → i < length e → x ≡ slice_index_or e i x → slice_get e i ≡ Some x
slot_get i [] x lt h = absurd (omega arith)
slot_get zero (y ∷ e) x lt h = ap (λ z. Some z) (sym h)
slot_get (suc i) (y ∷ e) x lt h = slot_get i e x (omega arith) h

pub told_open : (i v : ℕ) (e b : Assignment) (x : Option ℕ) (r : List Assignment) → i < length e → x ≡ slice_index_or e i x → x ≡ None → b ≡ set e i (Some v) → r ≡ b ∷ [] → r ≡ bind i v e
told_open i v e b x r lt h n q k = k ∙ ap (λ d. d ∷ []) q ∙ sym (bind-open i v e (slot_get i e x lt h ∙ ap (λ z. Some z) n))

pub told_same : (i v w : ℕ) (e b : Assignment) (x : Option ℕ) (r : List Assignment) → i < length e → x ≡ slice_index_or e i x → x ≡ Some w → w ≡ v → b ≡ e → r ≡ b ∷ [] → r ≡ bind i v e
told_same i v w e b x r lt h n q o k = k ∙ ap (λ d. d ∷ []) o ∙ sym (bind-same i v w e (slot_get i e x lt h ∙ ap (λ z. Some z) n) q)

pub told_other : (i v w : ℕ) (e : Assignment) (x : Option ℕ) (r : List Assignment) → i < length e → x ≡ slice_index_or e i x → x ≡ Some w → (w ≡ v → ⊥) → r ≡ [] → r ≡ bind i v e
told_other i v w e x r lt h n q k = k ∙ sym (bind-other i v w e (slot_get i e x lt h ∙ ap (λ z. Some z) n) q)

pub ruleset bind_rules = (bind-past)
