-- Roots of classes: what a number leads to has its root, and how a change of one number changes the roots.
use Rattle.std.proofs.Common.{◌≡◌, ◌<◌, ◌≤◌, ◌+◌, ℕ, zero, suc, List, [], ◌∷◌, length, refl, ap, sym, ◌∙◌, arith, set, true, false, Bool, inl, inr, ◌⊎◌}
use Rattle.std.specs.Prelude.{slice_index, nat_eq, if◌then◌else◌}
use Rattle.std.proofs.lemmas.Bool.{eqb-true, eq-eqb}
use Rattle.std.proofs.lemmas.Bool.Decides.{eqb_tells}
use Rattle.std.proofs.lemmas.List.{get_or-set_same, get_or-set_other, length-set}
use Rattle.mz_congruence.specs.Classes.{after_steps, root, Descends, Flat, total}

-- the order of two numbers
pub data Order (i j : ℕ) : Type 0 where
  under : i < j → Order i j
  equal : i ≡ j → Order i j
  over : j < i → Order i j

pub order : (i j : ℕ) → Order i j
order zero zero = equal refl
order zero (suc j) = under (omega arith)
order (suc i) zero = over (omega arith)
order (suc i) (suc j) = elim (order i j) [ under h ↦ under (omega arith) | equal h ↦ equal (ap suc h) | over h ↦ over (omega arith) ]

own_after : (n : ℕ) (c : List ℕ) (i : ℕ) → slice_index c i ≡ i → after_steps n c i ≡ i
own_after zero c i e = refl
own_after (suc n) c i e = rw e (own_after n c i e)

pub fixed_after : (n : ℕ) (c : List ℕ) → Descends c → (i : ℕ) → i ≤ n → slice_index c (after_steps n c i) ≡ after_steps n c i
unfolding Descends
fixed_after zero c d i le = omega (arith, d i, le)
fixed_after (suc n) c d i le =
    elim (eqb_tells (slice_index c i) i) [
      | inl t ↦ rw (t.1, own_after n c i t.1) t.1
      | inr t ↦ fixed_after n c d (slice_index c i) (omega (arith, d i, t.1))
    ]

after_steps-once_more : (n : ℕ) (c : List ℕ) (i : ℕ) → after_steps (suc n) c i ≡ slice_index c (after_steps n c i)
after_steps-once_more zero c i = refl
after_steps-once_more (suc n) c i = after_steps-once_more n c (slice_index c i)

-- more steps than the number lead no further
after_steps-root_from : (n : ℕ) (c : List ℕ) → Descends c → (i : ℕ) → i ≤ n → after_steps n c i ≡ root c i
after_steps-root_from zero c d i le = let z : i ≡ 0 = omega (arith, le) in rw z refl
after_steps-root_from (suc n) c d i le =
    elim (eqb_tells i (suc n)) [
      | inl t ↦ rw t.1 refl
      | inr t ↦ let h : i ≤ n = omega (arith, le, t.1) in after_steps-once_more n c i ∙ fixed_after n c d i h ∙ after_steps-root_from n c d i h
    ]

pub root_own : (c : List ℕ) (i : ℕ) → slice_index c i ≡ i → root c i ≡ i
root_own c i e = own_after i c i e

pub root_step : (c : List ℕ) → Descends c → (i : ℕ) → root c (slice_index c i) ≡ root c i
unfolding Descends
root_step c d zero = let z : slice_index c 0 ≡ 0 = omega (arith, d 0) in rw z refl
root_step c d (suc n) =
    elim (eqb_tells (slice_index c (suc n)) (suc n)) [
      | inl t ↦ ap (root c) t.1
      | inr t ↦ sym (after_steps-root_from n c d (slice_index c (suc n)) (omega (arith, d (suc n), t.1)))
    ]

pub root_fixed : (c : List ℕ) → Descends c → (i : ℕ) → slice_index c (root c i) ≡ root c i
root_fixed c d i = fixed_after i c d i (omega arith)

after_le : (n : ℕ) (c : List ℕ) → Descends c → (i : ℕ) → after_steps n c i ≤ i
unfolding Descends
after_le zero c d i = omega arith
after_le (suc n) c d i = omega (arith, after_le n c d (slice_index c i), d i)

pub root_le : (c : List ℕ) → Descends c → (i : ℕ) → root c i ≤ i
root_le c d i = after_le i c d i

pub root_flat : (c : List ℕ) → Descends c → Flat c → (i : ℕ) → root c i ≡ slice_index c i
unfolding Flat
root_flat c d f i = sym (root_step c d i) ∙ root_own c (slice_index c i) (f i)

-- a number after another is set
pub index_set_same : (c : List ℕ) (k v : ℕ) → k < length c → slice_index (set c k v) k ≡ v
index_set_same c k v lt = get_or-set_same c k v 0 lt

pub index_set_other : (c : List ℕ) (k v i : ℕ) → (i ≡ k → ⊥) → slice_index (set c k v) i ≡ slice_index c i
index_set_other c k v i ne = get_or-set_other c k i v 0 ne

pub descends_set : (c : List ℕ) (k v : ℕ) → k < length c → v ≤ k → Descends c → Descends (set c k v)
unfolding Descends
descends_set c k v lt le d i =
    elim (eqb_tells i k) [
      | inl t ↦ let e : slice_index (set c k v) k ≡ v = index_set_same c k v lt in rw t.1 (omega (arith, e, le))
      | inr t ↦ let e : slice_index (set c k v) i ≡ slice_index c i = index_set_other c k v i t.1 in omega (arith, e, d i)
    ]

pub total-set : (c : List ℕ) (k v : ℕ) → k < length c → total (set c k v) + slice_index c k ≡ total c + v
total-set [] k v lt = absurd (omega arith)
total-set (x ∷ xs) zero v lt = omega arith
total-set (x ∷ xs) (suc k) v lt = omega (arith, total-set xs k v (omega arith))

abbrev pub replaced : ℕ → ℕ → ℕ → ℕ
replaced from to x = if nat_eq x from then to else x

pub replaced_same : (from to : ℕ) → replaced from to from ≡ to
replaced_same from to =
    let here : (b : Bool) → b ≡ true → (if b then to else from) ≡ to = elim [ true ↦ λ e. refl | false ↦ λ e. cc ] in
    here (nat_eq from from) (eq-eqb from from refl)

pub replaced_other : (from to x : ℕ) → (x ≡ from → ⊥) → replaced from to x ≡ x
replaced_other from to x ne =
    let here : (b : Bool) → (b ≡ true → ⊥) → (if b then to else x) ≡ x = elim [ true ↦ λ n. absurd (n refl) | false ↦ λ n. refl ] in
    here (nat_eq x from) (λ e. ne (eqb-true x from e))

below_own : (c : List ℕ) (i n : ℕ) → Descends c → (slice_index c i ≡ i → ⊥) → i < suc n → slice_index c i < n
unfolding Descends
below_own c i n d ne le = omega (arith, d i, ne, le)

pub two_down : (c : List ℕ) (k : ℕ) → Descends c → slice_index c (slice_index c k) ≤ k
unfolding Descends
two_down c k d = omega (arith, d k, d (slice_index c k))

slice_index-back_up : (c : List ℕ) (k : ℕ) → Descends c → slice_index c (slice_index c k) ≡ k → slice_index c k ≡ k
unfolding Descends
slice_index-back_up c k d e = omega (arith, d k, d (slice_index c k), e)

-- a root that leads to a smaller root
root-link_below : (c : List ℕ) (k v : ℕ) → Descends c → k < length c → slice_index c k ≡ k → v < k → slice_index c v ≡ v → (n i : ℕ) → i < n → root (set c k v) i ≡ replaced k v (root c i)
root-link_below c k v d lt ok less ov zero i le = absurd (omega arith)
root-link_below c k v d lt ok less ov (suc n) i le =
    let e : Descends (set c k v) = descends_set c k v lt (omega arith) d in
    elim (eqb_tells i k) [
      | inl t ↦
          let at : slice_index (set c k v) k ≡ v = index_set_same c k v lt in
          let own : slice_index (set c k v) v ≡ v = index_set_other c k v v (λ q. omega (arith, q, less)) ∙ ov in
          let here : root (set c k v) k ≡ v = sym (root_step (set c k v) e k) ∙ ap (root (set c k v)) at ∙ root_own (set c k v) v own in
          rw (t.1, root_own c k ok, replaced_same k v) here
      | inr t ↦
          let at : slice_index (set c k v) i ≡ slice_index c i = index_set_other c k v i t.1 in
          elim (eqb_tells (slice_index c i) i) [
            | inl q ↦ root_own (set c k v) i (at ∙ q.1) ∙ sym (replaced_other k v i t.1) ∙ ap (replaced k v) (sym (root_own c i q.1))
            | inr q ↦
                let down : slice_index c i < n = below_own c i n d q.1 le in
                sym (root_step (set c k v) e i) ∙ ap (root (set c k v)) at ∙ root-link_below c k v d lt ok less ov n (slice_index c i) down ∙ ap (replaced k v) (root_step c d i)
          ]
    ]

pub root_link : (c : List ℕ) (k v : ℕ) → Descends c → k < length c → slice_index c k ≡ k → v < k → slice_index c v ≡ v → (i : ℕ) → root (set c k v) i ≡ replaced k v (root c i)
root_link c k v d lt ok less ov i = root-link_below c k v d lt ok less ov (suc i) i (omega arith)

-- a number that leads further within its class
root-compress_below : (c : List ℕ) (k : ℕ) → Descends c → k < length c → (n i : ℕ) → i < n → root (set c k (slice_index c (slice_index c k))) i ≡ root c i
root-compress_below c k d lt zero i le = absurd (omega arith)
root-compress_below c k d lt (suc n) i le =
    let v : ℕ = slice_index c (slice_index c k) in
    let up : v ≤ k = two_down c k d in
    let e : Descends (set c k v) = descends_set c k v lt up d in
    elim (eqb_tells i k) [
      | inl t ↦
          let at : slice_index (set c k v) k ≡ v = index_set_same c k v lt in
          elim (eqb_tells v k) [
            | inl q ↦
                let own : slice_index c k ≡ k = slice_index-back_up c k d q.1 in
                rw t.1 (root_own (set c k v) k (at ∙ q.1) ∙ sym (root_own c k own))
            | inr q ↦
                let down : v < n = omega (arith, up, q.1, le, t.1) in
                rw t.1 (sym (root_step (set c k v) e k) ∙ ap (root (set c k v)) at ∙ root-compress_below c k d lt n v down ∙ root_step c d (slice_index c k) ∙ root_step c d k)
          ]
      | inr t ↦
          let at : slice_index (set c k v) i ≡ slice_index c i = index_set_other c k v i t.1 in
          elim (eqb_tells (slice_index c i) i) [
            | inl q ↦ root_own (set c k v) i (at ∙ q.1) ∙ sym (root_own c i q.1)
            | inr q ↦
                let down : slice_index c i < n = below_own c i n d q.1 le in
                sym (root_step (set c k v) e i) ∙ ap (root (set c k v)) at ∙ root-compress_below c k d lt n (slice_index c i) down ∙ root_step c d i
          ]
    ]

pub root_compress : (c : List ℕ) (k : ℕ) → Descends c → k < length c → (i : ℕ) → root (set c k (slice_index c (slice_index c k))) i ≡ root c i
root_compress c k d lt i = root-compress_below c k d lt (suc i) i (omega arith)

-- what is flat below k is flat up to it once k is compressed
pub slice_index-flat_more : (c : List ℕ) (k : ℕ) → Descends c → k < length c → ((i : ℕ) → i < k → slice_index c (slice_index c i) ≡ slice_index c i) → (i : ℕ) → i < k + 1 → slice_index (set c k (slice_index c (slice_index c k))) (slice_index (set c k (slice_index c (slice_index c k))) i) ≡ slice_index (set c k (slice_index c (slice_index c k))) i
unfolding Descends
slice_index-flat_more c k d lt h i le =
    let j : ℕ = slice_index c k in
    let v : ℕ = slice_index c j in
    let at : slice_index (set c k v) k ≡ v = index_set_same c k v lt in
    elim (eqb_tells i k) [
      | inl t ↦
          elim (eqb_tells v k) [
            | inl q ↦ rw (t.1, at, q.1) (index_set_same c k k lt)
            | inr q ↦
                let other : slice_index (set c k v) v ≡ slice_index c v = index_set_other c k v v q.1 in
                elim (eqb_tells j k) [
                  | inl p ↦ absurd (q.1 (ap (slice_index c) p.1 ∙ p.1))
                  | inr p ↦
                      let own : slice_index c v ≡ v = h j (omega (arith, d k, p.1)) in
                      rw (t.1, at) (other ∙ own)
                ]
          ]
      | inr t ↦
          let less : i < k = omega (arith, le, t.1) in
          let a : slice_index (set c k v) i ≡ slice_index c i = index_set_other c k v i t.1 in
          let b : slice_index (set c k v) (slice_index c i) ≡ slice_index c (slice_index c i) = index_set_other c k v (slice_index c i) (λ q. omega (arith, q, d i, less)) in
          rw a (b ∙ h i less)
    ]

pub step_less : (c : List ℕ) (k up again : ℕ) → Descends c → up ≡ slice_index c k → (up ≡ k → ⊥) → again ≡ slice_index c k → again < k
unfolding Descends
step_less c k up again d e ne f = omega (arith, d k, e, ne, f)

-- past the end a number leads to 0
pub slice_index-past_end : (c : List ℕ) (i : ℕ) → length c ≤ i → slice_index c i ≡ 0
slice_index-past_end [] i le = refl
slice_index-past_end (x ∷ xs) zero le = absurd (omega arith)
slice_index-past_end (x ∷ xs) (suc i) le = slice_index-past_end xs i (omega arith)

pub cases_lt : (i k : ℕ) → (i < k) ⊎ (k ≤ i)
cases_lt i k = elim (order i k) [ under h ↦ inl h | equal h ↦ inr (omega (arith, h)) | over h ↦ inr (omega (arith, h)) ]

pub flat_at_end : (c : List ℕ) (k : ℕ) → Descends c → length c ≤ k → ((i : ℕ) → i < k → slice_index c (slice_index c i) ≡ slice_index c i) → Flat c
unfolding Flat Descends
flat_at_end c k d le h i =
    elim (cases_lt i k) [
      | inl lt ↦ h i lt
      | inr ge ↦
          let z : slice_index c i ≡ 0 = slice_index-past_end c i (omega (arith, ge, le)) in
          let y : slice_index c 0 ≡ 0 = omega (arith, d 0) in
          rw (z, y) refl
    ]

-- what the compression of one number reaches
pub record Compressed (c : List ℕ) (k : ℕ) (d : List ℕ) : Type 0 where
  pub len : length d ≡ length c
  pub descends : Descends d
  pub flat : (i : ℕ) → i < k + 1 → slice_index d (slice_index d i) ≡ slice_index d i
  pub roots : (i : ℕ) → root d i ≡ root c i
  pub less : total d ≤ total c

pub compressed : (c : List ℕ) (k up : ℕ) → k < length c → Descends c → ((i : ℕ) → i < k → slice_index c (slice_index c i) ≡ slice_index c i) → up ≡ slice_index c (slice_index c k) → Compressed c k (set c k up)
unfolding Descends
compressed c k up lt d h e =
    let v : ℕ = slice_index c (slice_index c k) in
    rw e (record {
      len = length-set c k v;
      descends = descends_set c k v lt (two_down c k d) d;
      flat = slice_index-flat_more c k d lt h;
      roots = root_compress c k d lt;
      less = omega (arith, total-set c k v lt, d (slice_index c k));
    })

pub ruleset root_rules = (root_own, root_step)

pub ruleset bound_rules = (root_le)
