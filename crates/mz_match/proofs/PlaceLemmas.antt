-- Classes at places.
use Rattle.std.proofs.Common.{◌≡◌, ◌<◌, ◌≤◌, ◌+◌, inl, inr, ℕ, zero, suc, List, [], ◌∷◌, ◌++◌, map, length, set, refl, arith, ap, sym, ◌∙◌, Bool, true, false, subst}
use Rattle.std.specs.Prelude.{slice_get, slice_index, slice_index_or, Option, None, Some, nat_eq}
use Rattle.std.specs.List.{AllByRecursion}
use Rattle.std.proofs.lemmas.Bool.Decides.{eqb_tells}
use Rattle.mz_match.specs.Slots.{Assignment, slot_at}
use Rattle.mz_match.specs.Fitting.{Fits}
use Rattle.mz_match.specs.Places.{Agrees, Extends, SlotFits}

pub slot_get : (e : Assignment) (i : ℕ) (x : Option ℕ) → i < length e → x ≡ slice_index_or e i x → x ≡ slot_at e i
slot_get [] i x lt h = absurd (omega arith)
slot_get (y ∷ e) zero x lt h = h
slot_get (y ∷ e) (suc i) x lt h = slot_get e i x (omega arith) h

pub slot_past : (e : Assignment) (i : ℕ) → length e ≤ i → slot_at e i ≡ None
slot_past [] i le = refl
slot_past (y ∷ e) zero le = absurd (omega arith)
slot_past (y ∷ e) (suc i) le = slot_past e i (omega arith)

pub ruleset slot_rules = (slot_get, slot_past)

slot_within : (e : Assignment) (i v : ℕ) → slot_at e i ≡ Some v → i < length e
slot_within [] i v h = cc
slot_within (y ∷ e) zero v h = omega arith
slot_within (y ∷ e) (suc i) v h = let r : i < length e = slot_within e i v h in omega (arith, r)

set_same : (e : Assignment) (i : ℕ) (x : Option ℕ) → i < length e → slot_at (set e i x) i ≡ x
set_same [] i x lt = absurd (omega arith)
set_same (y ∷ e) zero x lt = refl
set_same (y ∷ e) (suc i) x lt = set_same e i x (omega arith)

set_other : (e : Assignment) (i j : ℕ) (x : Option ℕ) → (i ≡ j → ⊥) → slot_at (set e i x) j ≡ slot_at e j
set_other [] i j x n = refl
set_other (y ∷ e) zero zero x n = absurd (n refl)
set_other (y ∷ e) zero (suc j) x n = refl
set_other (y ∷ e) (suc i) zero x n = refl
set_other (y ∷ e) (suc i) (suc j) x n = set_other e i j x (λ q. n (ap suc q))

set_length : (e : Assignment) (i : ℕ) (x : Option ℕ) → length (set e i x) ≡ length e
set_length [] i x = refl
set_length (y ∷ e) zero x = refl
set_length (y ∷ e) (suc i) x = ap suc (set_length e i x)

true_not_false : (b : Bool) → b ≡ true → b ≡ false → ⊥
true_not_false b t f = cc

open_there : (e : Assignment) (i v : ℕ) (a : ℕ → ℕ) → i < length e → slot_at e i ≡ None → Agrees (set e i (Some v)) a → Agrees e a × (a i ≡ v)
unfolding Agrees
open_there e i v a lt n h = (
  λ j w q.
      elim (eqb_tells i j) [
        | inl t ↦ let o : slot_at e j ≡ None = subst (λ (k : ℕ). slot_at e k ≡ None) t.1 n in cc
        | inr t ↦ h j w (set_other e i j (Some v) t.1 ∙ q)
      ],
  h i v (set_same e i (Some v) lt),
)

open_back : (e : Assignment) (i v : ℕ) (a : ℕ → ℕ) → i < length e → Agrees e a → a i ≡ v → Agrees (set e i (Some v)) a
unfolding Agrees
open_back e i v a lt h k =
    λ j w q.
    elim (eqb_tells i j) [
      | inl t ↦
          let p : slot_at (set e i (Some v)) j ≡ Some v = subst (λ (m : ℕ). slot_at (set e i (Some v)) m ≡ Some v) t.1 (set_same e i (Some v) lt) in
          let r : v ≡ w = cc in
          ap a (sym t.1) ∙ k ∙ r
      | inr t ↦ h j w (sym (set_other e i j (Some v) t.1) ∙ q)
    ]

-- an open place gets its class
pub told_open : (e d : Assignment) (i v : ℕ) (x : Option ℕ) (b : Bool) → i < length e → x ≡ slice_index_or e i x → x ≡ None → d ≡ set e i (Some v) → b ≡ true → Extends (λ a. a i ≡ v) e d b
told_open e d i v x b lt h n q t =
    let o : slot_at e i ≡ None = sym (slot_get e i x lt h) ∙ n in
    record {
      count = ap length q ∙ set_length e i (Some v);
      there = λ r a. (λ g. open_there e i v a lt o (subst (λ (ds : Assignment). Agrees ds a) q g), λ g. subst (λ (ds : Assignment). Agrees ds a) (sym q) (open_back e i v a lt g.0 g.1));
      nowhere = λ r. absurd (true_not_false b t r);
    }

agreed : (e : Assignment) (i w : ℕ) (a : ℕ → ℕ) → slot_at e i ≡ Some w → Agrees e a → a i ≡ w
unfolding Agrees
agreed e i w a h g = g i w h

-- a place that has a class keeps it
pub told_bound : (e d : Assignment) (i v w : ℕ) (x : Option ℕ) (b : Bool) → i < length e → x ≡ slice_index_or e i x → x ≡ Some w → d ≡ e → b ≡ nat_eq w v → Extends (λ a. a i ≡ v) e d b
told_bound e d i v w x b lt h n q t =
    let o : slot_at e i ≡ Some w = sym (slot_get e i x lt h) ∙ n in
    elim (eqb_tells w v) [
      | inl y ↦
          record {
            count = ap length q;
            there = λ r a. (λ g. let k : Agrees e a = subst (λ (ds : Assignment). Agrees ds a) q g in (k, agreed e i w a o k ∙ y.1), λ g. subst (λ (ds : Assignment). Agrees ds a) (sym q) g.0);
            nowhere = λ r. absurd (true_not_false b (t ∙ y.0) r);
          }
      | inr y ↦
          record {
            count = ap length q;
            there = λ r. absurd (true_not_false b r (t ∙ y.0));
            nowhere = λ r a g p. y.1 (sym (agreed e i w a o g) ∙ p);
          }
    ]

-- with a slot
pub told_no_slot : (e : Assignment) (i : ℕ) → Extends (λ a. SlotFits None (a i)) e e true
told_no_slot e i = record { count = refl; there = λ r a. (λ g. (g, tt), λ g. g.0); nowhere = λ r. absurd (true_not_false true refl r) }

-- the first k slots fit
abbrev pub FitsTo : List ℕ → Assignment → (ℕ → ℕ) → ℕ → Type 0
FitsTo scope l a k = (j i : ℕ) → j < k → slice_get scope j ≡ Some i → SlotFits (slot_at l j) (a i)

pub FitsTo-none : (scope : List ℕ) (l : Assignment) (e : Assignment) → Extends (λ a. FitsTo scope l a 0) e e true
FitsTo-none scope l e = record { count = refl; there = λ r a. (λ g. (g, λ j i lt q. absurd (omega arith)), λ g. g.0); nowhere = λ r. absurd (true_not_false true refl r) }

FitsTo-more : (scope : List ℕ) (l : Assignment) (a : ℕ → ℕ) (k i : ℕ) → slice_get scope k ≡ Some i → FitsTo scope l a k → SlotFits (slot_at l k) (a i) → FitsTo scope l a (k + 1)
FitsTo-more scope l a k i at h s j m lt q =
    elim (eqb_tells j k) [
      | inl t ↦
          let p : slice_get scope k ≡ Some m = subst (λ (n : ℕ). slice_get scope n ≡ Some m) t.1 q in
          let r : i ≡ m = cc in
          subst (λ (n : ℕ). SlotFits (slot_at l n) (a m)) (sym t.1) (subst (λ (n : ℕ). SlotFits (slot_at l k) (a n)) r s)
      | inr t ↦ let n : j ≡ k → ⊥ = t.1 in h j m (omega arith) q
    ]

scope_get : (scope : List ℕ) (k i : ℕ) → k < length scope → i ≡ slice_index_or scope k i → slice_get scope k ≡ Some i
scope_get [] k i lt h = absurd (omega arith)
scope_get (x ∷ scope) zero i lt h = ap (λ y. Some y) (sym h)
scope_get (x ∷ scope) (suc k) i lt h = scope_get scope k i (omega arith) h

index_or : (scope : List ℕ) (k : ℕ) → k < length scope → slice_index scope k ≡ slice_index_or scope k (slice_index scope k)
index_or [] k lt = absurd (omega arith)
index_or (x ∷ scope) zero lt = refl
index_or (x ∷ scope) (suc k) lt = index_or scope k (omega arith)

slot_more : (scope : List ℕ) (l e d c : Assignment) (k i : ℕ) → slice_get scope k ≡ Some i → Extends (λ a. FitsTo scope l a k) e d true → Extends (λ a. SlotFits (slot_at l k) (a i)) d c true → Extends (λ a. FitsTo scope l a (k + 1)) e c true
slot_more scope l e d c k i at h s = record {
  count = s.count ∙ h.count;
  there = λ r a. (
    λ g. let x = (s.there refl a).0 g in let y = (h.there refl a).0 x.0 in (y.0, FitsTo-more scope l a k i at y.1 x.1),
    λ g. (s.there refl a).1 ((h.there refl a).1 (g.0, λ j m lt q. g.1 j m (omega arith) q), g.1 k i (omega arith) at),
  );
  nowhere = λ r. absurd (true_not_false true refl r);
}

-- all slots
fits_all : (scope : List ℕ) (l : Assignment) (a : ℕ → ℕ) → length scope ≡ length l → FitsTo scope l a (length scope) → Fits l (map a scope)
fits_all [] [] a e h = tt
fits_all [] (x ∷ l) a e h = absurd (omega (arith, e))
fits_all (i ∷ scope) [] a e h = absurd (omega (arith, e))
fits_all (i ∷ scope) (None ∷ l) a e h = fits_all scope l a (omega (arith, e)) (λ j m lt q. h (suc j) m (omega arith) q)
fits_all (i ∷ scope) (Some w ∷ l) a e h = (sym (h 0 i (omega arith) refl), fits_all scope l a (omega (arith, e)) (λ j m lt q. h (suc j) m (omega arith) q))

all_fit : (scope : List ℕ) (l : Assignment) (a : ℕ → ℕ) → Fits l (map a scope) → (j i : ℕ) → slice_get scope j ≡ Some i → SlotFits (slot_at l j) (a i)
all_fit [] l a h j i q = cc
all_fit (m ∷ scope) [] a h j i q = absurd h
all_fit (m ∷ scope) (None ∷ l) a h zero i q = tt
all_fit (m ∷ scope) (Some w ∷ l) a h zero i q = let r : m ≡ i = cc in sym (h.0 ∙ ap a r)
all_fit (m ∷ scope) (None ∷ l) a h (suc j) i q = all_fit scope l a h j i q
all_fit (m ∷ scope) (Some w ∷ l) a h (suc j) i q = all_fit scope l a h.1 j i q

length-fits_long : (scope : List ℕ) (l : Assignment) (a : ℕ → ℕ) → Fits l (map a scope) → length scope ≡ length l
length-fits_long [] [] a h = refl
length-fits_long [] (x ∷ l) a h = absurd h
length-fits_long (i ∷ scope) [] a h = absurd h
length-fits_long (i ∷ scope) (None ∷ l) a h = ap suc (length-fits_long scope l a h)
length-fits_long (i ∷ scope) (Some w ∷ l) a h = ap suc (length-fits_long scope l a h.1)

pub told_unlike : (scope : List ℕ) (l e : Assignment) → (length scope ≡ length l → ⊥) → Extends (λ a. Fits l (map a scope)) e e false
told_unlike scope l e n = record { count = refl; there = λ r. absurd (true_not_false false r refl); nowhere = λ r a g h. n (length-fits_long scope l a h) }

pub told_all_bound : (scope : List ℕ) (l e d : Assignment) → length scope ≡ length l → Extends (λ a. FitsTo scope l a (length scope)) e d true → Extends (λ a. Fits l (map a scope)) e d true
told_all_bound scope l e d n h = record {
  count = h.count;
  there = λ r a. (λ g. let x = (h.there refl a).0 g in (x.0, fits_all scope l a n x.1), λ g. (h.there refl a).1 (g.0, λ j i lt q. all_fit scope l a g.1 j i q));
  nowhere = λ r. absurd (true_not_false true refl r);
}

pub told_not_bound : (scope : List ℕ) (l e d c : Assignment) (k : ℕ) (x : Option ℕ) → k < length scope → x ≡ slot_at l k → Extends (λ a. FitsTo scope l a k) e d true → Extends (λ a. SlotFits x (a (slice_index scope k))) d c false → Extends (λ a. Fits l (map a scope)) e c false
told_not_bound scope l e d c k x lt q h s =
    let at : slice_get scope k ≡ Some (slice_index scope k) = scope_get scope k (slice_index scope k) lt (index_or scope k lt) in
    record {
      count = s.count ∙ h.count;
      there = λ r. absurd (true_not_false false r refl);
      nowhere = λ r a g f. s.nowhere refl a ((h.there refl a).1 (g, λ j m lt q. all_fit scope l a f j m q)) (subst (λ (y : Option ℕ). SlotFits y (a (slice_index scope k))) (sym q) (all_fit scope l a f k (slice_index scope k) at));
    }

pub told_slot_more : (scope : List ℕ) (l e d c : Assignment) (k : ℕ) (x : Option ℕ) → k < length scope → x ≡ slot_at l k → Extends (λ a. FitsTo scope l a k) e d true → Extends (λ a. SlotFits x (a (slice_index scope k))) d c true → Extends (λ a. FitsTo scope l a (k + 1)) e c true
told_slot_more scope l e d c k x lt q h s =
    slot_more scope l e d c k (slice_index scope k) (scope_get scope k (slice_index scope k) lt (index_or scope k lt)) h
    (subst (λ (y : Option ℕ). Extends (λ a. SlotFits y (a (slice_index scope k))) d c true) q s)

-- a member of a list within
pub below_get : (n : ℕ) (scope : List ℕ) (k i : ℕ) → AllByRecursion (λ j. j < n) scope → slice_get scope k ≡ Some i → i < n
below_get n [] k i h q = cc
below_get n (x ∷ scope) zero i h q = let r : x ≡ i = cc in subst (λ (y : ℕ). y < n) r h.0
below_get n (x ∷ scope) (suc k) i h q = below_get n scope k i h.1 q

-- the classes at places fit those of the variables
place_fits : (x : Option ℕ) (e : Assignment) (n : ℕ) (a : List ℕ) → ((v : ℕ) → x ≡ Some v → n ≡ v) → Fits e a → Fits (x ∷ e) (n ∷ a)
place_fits None e n a h f = f
place_fits (Some w) e n a h f = (sym (h w refl), f)

pub places_fit : (e : Assignment) (a : ℕ → ℕ) (scope : List ℕ) → Agrees e a → Fits (map (slot_at e) scope) (map a scope)
unfolding Agrees
places_fit e a [] g = tt
places_fit e a (i ∷ scope) g = place_fits (slot_at e i) (map (slot_at e) scope) (a i) (map a scope) (λ v q. g i v q) (places_fit e a scope g)

-- one more place
slot_front : (e : Assignment) (i v : ℕ) → slot_at e i ≡ Some v → slot_at (e ++ None ∷ []) i ≡ Some v
slot_front [] i v q = cc
slot_front (x ∷ e) zero v q = q
slot_front (x ∷ e) (suc i) v q = slot_front e i v q

pub wider_there : (e : Assignment) (a : ℕ → ℕ) → Agrees (e ++ None ∷ []) a → Agrees e a
unfolding Agrees
wider_there e a g i v q = g i v (slot_front e i v q)

slot_of_wider : (e : Assignment) (i v : ℕ) → slot_at (e ++ None ∷ []) i ≡ Some v → slot_at e i ≡ Some v
slot_of_wider [] zero v q = cc
slot_of_wider [] (suc i) v q = cc
slot_of_wider (x ∷ e) zero v q = q
slot_of_wider (x ∷ e) (suc i) v q = slot_of_wider e i v q

-- classes that differ only past the places
pub wider_back : (e : Assignment) (a b : ℕ → ℕ) → Agrees e a → ((i : ℕ) → i < length e → b i ≡ a i) → Agrees (e ++ None ∷ []) b
unfolding Agrees
wider_back e a b g same i v q = let p = slot_of_wider e i v q in same i (slot_within e i v p) ∙ g i v p

-- some classes agree
class_or : Option ℕ → ℕ
class_or None = 0
class_or (Some v) = v

pub some_agree : (e : Assignment) → (a : ℕ → ℕ) × Agrees e a
unfolding Agrees class_or
some_agree e = (λ i. class_or (slot_at e i), λ i v q. ap class_or q)
